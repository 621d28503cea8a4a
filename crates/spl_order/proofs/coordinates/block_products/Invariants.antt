use Rattle.spl_field.specs.SmallField.{small_ops, small_laws}
use Rattle.spl_order.specs.Values.{HasRow}
use Rattle.spl_order.specs.Coordinates.{block_item}
use Rattle.spl_order.proofs.coordinates.block_products.Given as goal

abbrev pub invariant-loop-p : goal.invariant-loop-p
invariant-loop-p l =
    let o = small_ops l.f in HasRow o (block_item o (small_laws l.f) l.a l.b l.h l.n l.w) l.p l.items
