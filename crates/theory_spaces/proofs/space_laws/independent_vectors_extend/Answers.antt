use Rattle.theory_spaces.proofs.Linear.Spaces.{extend_basis}
use Rattle.theory_spaces.proofs.space_laws.independent_vectors_extend.Goals as goal

pub returns : goal.returns
returns g c = extend_basis g.S.Space.field g.S.Space.space
