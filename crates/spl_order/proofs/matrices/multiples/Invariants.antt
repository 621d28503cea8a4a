use Rattle.std.proofs.Common.{[], get_or}
use Rattle.spl_field.specs.SmallField.{small_ops, small_laws}
use Rattle.theory_fractions.specs.FractionOps.{fraction_ops}
use Rattle.theory_fractions.specs.CommonDenominator.{as_fraction}
use Rattle.spl_order.specs.Values.{HasRow}
use Rattle.spl_order.proofs.matrices.multiples.Given as goal

abbrev pub invariant-loop-i : goal.invariant-loop-i
invariant-loop-i l = let o = small_ops l.f in let K = fraction_ops o (small_laws l.f) in
    HasRow o (λ j. K.mul (as_fraction o l.c) (as_fraction o (get_or l.items j []))) l.i l.row
