use Rattle.std.proofs.Common.{◌/◌, ◌%◌}
use Rattle.spl_field.specs.SmallField.{small_ops}
use Rattle.spl_order.specs.Values.{HasRow, fraction_entry}
use Rattle.spl_order.proofs.coordinates.flat.Given as goal

abbrev pub invariant-loop-p : goal.invariant-loop-p
invariant-loop-p l =
    let o = small_ops l.f in HasRow o (λ p. fraction_entry o l.rows (p / l.w) (p % l.w)) l.p l.items
