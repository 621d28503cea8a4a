use Rattle.theory_pairs.proofs.FractionLattices.{corner_of_orders}
use Rattle.theory_pairs.proofs.fraction_laws.corner_of_orders_over_fractions.Goals as goal

pub returns : goal.returns
returns g c = record { corner = λ o L M. corner_of_orders o L M }
