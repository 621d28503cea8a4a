use Rattle.std.proofs.Common.{◌≡◌, take}
use Rattle.spl_matrix.proofs.matrix.copied.Given as goal

abbrev pub invariant-loop-i : goal.invariant-loop-i
invariant-loop-i g l = l.out.items ≡ take l.i l.rows
