use Rattle.theory_pairs.proofs.FractionLattices.{count_of_orders}
use Rattle.theory_pairs.proofs.fraction_laws.degree_count_of_orders.Goals as goal

pub returns : goal.returns
returns g c = record { count = λ o L M. count_of_orders o L M }
