use Rattle.std.proofs.Common.{◌≡◌}
use Rattle.spl_field.specs.SmallField.{small_ops, small_laws}
use Rattle.theory_fractions.specs.PolynomialLists.{IsPolynomialList}
use Rattle.theory_fractions.specs.CommonDenominator.{as_fraction}
use Rattle.spl_numerators.specs.Sums.{sum_of_products}
use Rattle.spl_numerators.proofs.products.sum_of_products.Given as goal

abbrev pub invariant-loop-l : goal.invariant-loop-l
invariant-loop-l l = let o = small_ops l.f in record {
  polynomial : IsPolynomialList o l.sum;
  value : as_fraction o l.sum ≡ sum_of_products o (small_laws l.f) l.lefts l.rights l.l l.first l.second l.stride;
}
