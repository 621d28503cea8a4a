use Rattle.std.proofs.Common.{[], get_or}
use Rattle.spl_field.specs.SmallField.{small_ops, small_laws}
use Rattle.spl_order.specs.Values.{HasRow, multiple_over}
use Rattle.spl_order.proofs.within.row_over.Given as goal

abbrev pub invariant-loop-i : goal.invariant-loop-i
invariant-loop-i l =
    HasRow (small_ops l.f) (λ j. multiple_over (small_ops l.f) (small_laws l.f) l.d l.c (get_or l.row j [])) l.i l.items
