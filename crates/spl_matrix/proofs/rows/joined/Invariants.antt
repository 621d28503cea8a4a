use Rattle.std.proofs.Common.{◌≡◌, ◌++◌, take}
use Rattle.spl_matrix.proofs.rows.joined.Given as goal

abbrev pub invariant-loop-j : goal.invariant-loop-j
invariant-loop-j g l = l.items ≡ l.left ++ take l.j l.right
