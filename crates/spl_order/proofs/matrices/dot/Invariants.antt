use Rattle.std.proofs.Common.{◌≡◌, [], get_or}
use Rattle.spl_field.specs.SmallField.{small_ops, small_laws}
use Rattle.theory_rings.specs.Sum.{sum_of}
use Rattle.theory_fractions.specs.PolynomialLists.{IsPolynomialList}
use Rattle.theory_fractions.specs.FractionOps.{fraction_ops}
use Rattle.theory_fractions.specs.CommonDenominator.{as_fraction}
use Rattle.spl_order.specs.Values.{fraction_entry}
use Rattle.spl_order.proofs.matrices.dot.Given as goal

abbrev pub invariant-loop-k : goal.invariant-loop-k
invariant-loop-k l = let o = small_ops l.f in let K = fraction_ops o (small_laws l.f) in record {
  polynomial : IsPolynomialList o l.sum;
  value : as_fraction o l.sum ≡ sum_of K l.k (λ k. K.mul (as_fraction o (get_or l.row k [])) (fraction_entry o l.rows k l.j));
}
