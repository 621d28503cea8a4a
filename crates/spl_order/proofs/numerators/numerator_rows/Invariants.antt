use Rattle.spl_field.specs.SmallField.{small_ops, small_laws}
use Rattle.spl_order.specs.Rows.{AreNumeratorRows}
use Rattle.spl_order.proofs.numerators.numerator_rows.Given as goal

abbrev pub invariant-loop-i : goal.invariant-loop-i
invariant-loop-i l = AreNumeratorRows (small_ops l.f) (small_laws l.f) l.c l.tuples l.i l.rows
