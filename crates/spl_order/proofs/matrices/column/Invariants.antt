use Rattle.spl_field.specs.SmallField.{small_ops}
use Rattle.spl_order.specs.Values.{HasRow, fraction_entry}
use Rattle.spl_order.proofs.matrices.column.Given as goal

abbrev pub invariant-loop-i : goal.invariant-loop-i
invariant-loop-i l = let o = small_ops l.f in HasRow o (λ i. fraction_entry o l.rows i l.j) l.i l.items
