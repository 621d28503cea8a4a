use Rattle.theory_rings.proofs.Powers.FrobeniusMap.{frobenius-add}
use Rattle.theory_rings.proofs.power_laws.frobenius_law.Goals as goal

pub returns : goal.returns
returns g c = frobenius-add g.R.CommutativeRing.ring
