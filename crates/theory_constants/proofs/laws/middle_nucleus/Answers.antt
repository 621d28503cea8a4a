use Rattle.theory_constants.proofs.Nucleus.{nucleus_law}
use Rattle.theory_constants.proofs.laws.middle_nucleus.Goals as goal

pub returns : goal.returns
returns g c = record { nucleus = λ o L. nucleus_law o L }
