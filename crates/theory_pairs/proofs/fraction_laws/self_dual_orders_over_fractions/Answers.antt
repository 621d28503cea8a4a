use Rattle.theory_pairs.proofs.FractionLattices.{basis_has_dual_vectors, orders_hold_middle_element}
use Rattle.theory_pairs.proofs.fraction_laws.self_dual_orders_over_fractions.Goals as goal

pub returns : goal.returns
returns g c = record {
  dual = λ o L M. basis_has_dual_vectors o L M;
  middle = λ o L M. orders_hold_middle_element o L M;
}
