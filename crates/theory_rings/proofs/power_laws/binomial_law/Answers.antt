use Rattle.theory_rings.proofs.Powers.Binomial.{binomial_theorem}
use Rattle.theory_rings.proofs.power_laws.binomial_law.Goals as goal

pub returns : goal.returns
returns g c = binomial_theorem g.R.CommutativeRing.ring
