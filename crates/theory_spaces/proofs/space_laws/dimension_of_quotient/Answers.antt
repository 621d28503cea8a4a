use Rattle.theory_spaces.proofs.Linear.Quotients.{quotient_basis}
use Rattle.theory_spaces.proofs.space_laws.dimension_of_quotient.Goals as goal

pub returns : goal.returns
returns g c = quotient_basis g.S.Space.field g.S.Space.space
