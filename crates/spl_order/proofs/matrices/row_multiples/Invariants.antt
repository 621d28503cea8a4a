use Rattle.spl_field.specs.SmallField.{small_ops, small_laws}
use Rattle.theory_fractions.specs.FractionOps.{fraction_ops}
use Rattle.theory_fractions.specs.CommonDenominator.{as_fraction}
use Rattle.spl_order.specs.Values.{HasMatrix, fraction_entry}
use Rattle.spl_order.proofs.matrices.row_multiples.Given as goal

abbrev pub invariant-loop-i : goal.invariant-loop-i
invariant-loop-i l = let o = small_ops l.f in let K = fraction_ops o (small_laws l.f) in
    HasMatrix o (λ i j. K.mul (as_fraction o l.c) (fraction_entry o l.rows i j)) l.i l.w l.parts
