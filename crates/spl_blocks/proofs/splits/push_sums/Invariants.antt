use Rattle.std.proofs.Common.{◌+◌, ◌*◌, length}
use Rattle.spl_blocks.specs.Splits.{AreKept, IsSumOf}
use Rattle.spl_blocks.proofs.splits.push_sums.Given as goal

abbrev pub invariant-loop-j : goal.invariant-loop-j
invariant-loop-j g l = let o = g.F.Field.ops l.f in
    AreKept o l.a (l.i * length l.right + l.j) (IsSumOf o l.a l.left l.right) l.out
