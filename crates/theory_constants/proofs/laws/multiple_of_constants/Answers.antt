use Rattle.theory_constants.proofs.Scaling.{scaling_law}
use Rattle.theory_constants.proofs.laws.multiple_of_constants.Goals as goal

pub returns : goal.returns
returns g c = record { scaling = λ o L. scaling_law o L }
