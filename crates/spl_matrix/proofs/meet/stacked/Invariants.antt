use Rattle.std.proofs.Common.{◌≡◌, ◌++◌, take}
use Rattle.spl_matrix.proofs.meet.stacked.Given as goal

abbrev pub invariant-loop-i : goal.invariant-loop-i
invariant-loop-i g l = l.rows.items ≡ l.a ++ take l.i l.b
