use Rattle.theory_spaces.proofs.Linear.Dimension.{dimension_unique}
use Rattle.theory_spaces.proofs.space_laws.dimension_is_unique.Goals as goal

pub returns : goal.returns
returns g c = dimension_unique g.S.Space.field g.S.Space.space
