use Rattle.std.proofs.Common.{◌≡◌, take}
use Rattle.spl_order.proofs.lifts.lifted_row.Given as goal

abbrev pub invariant-loop-item : goal.invariant-loop-item
invariant-loop-item l = l.lifts ≡ take l.item-index l.row
