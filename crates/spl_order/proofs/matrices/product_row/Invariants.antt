use Rattle.std.proofs.Common.{[], get_or, length}
use Rattle.spl_field.specs.SmallField.{small_ops, small_laws}
use Rattle.theory_rings.specs.Sum.{sum_of}
use Rattle.theory_fractions.specs.FractionOps.{fraction_ops}
use Rattle.theory_fractions.specs.CommonDenominator.{as_fraction}
use Rattle.spl_order.specs.Values.{HasRow, fraction_entry}
use Rattle.spl_order.proofs.matrices.product_row.Given as goal

abbrev pub invariant-loop-j : goal.invariant-loop-j
invariant-loop-j l = let o = small_ops l.f in let K = fraction_ops o (small_laws l.f) in
    HasRow o (λ j. sum_of K (length l.rows) (λ k. K.mul (as_fraction o (get_or l.row k [])) (fraction_entry o l.rows k j)))
    l.j l.items
