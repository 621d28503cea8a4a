use Rattle.std.proofs.Common.{length}
use Rattle.spl_field.specs.SmallField.{small_ops, small_laws}
use Rattle.spl_order.specs.Values.{HasMatrix, product_entry}
use Rattle.spl_order.proofs.matrices.product.Given as goal

abbrev pub invariant-loop-i : goal.invariant-loop-i
invariant-loop-i l = let o = small_ops l.f in
    HasMatrix o (product_entry o (small_laws l.f) (length l.b) l.a l.b) l.i l.w l.rows
