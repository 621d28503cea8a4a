use Rattle.std.proofs.Common.{◌≡◌, take}
use Rattle.spl_order.proofs.lifts.lifted_rows.Given as goal

abbrev pub invariant-loop-row : goal.invariant-loop-row
invariant-loop-row l = l.lifts ≡ take l.row-index l.rows
