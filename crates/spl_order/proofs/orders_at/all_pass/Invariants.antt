use Rattle.std.proofs.Common.{◌<◌, ℕ}
use Rattle.spl_field.specs.SmallField.{small_ops, small_laws}
use Rattle.spl_order.specs.Coordinates.{row_at}
use Rattle.spl_order.specs.Members.{HasDividedProduct}
use Rattle.spl_order.proofs.orders_at.all_pass.Given as goal

abbrev pub invariant-loop-i : goal.invariant-loop-i
invariant-loop-i l = (i : ℕ) → i < l.i
    → HasDividedProduct (small_ops l.f) (small_laws l.f) l.test.part l.n l.test.columns (row_at l.n l.rows i)
