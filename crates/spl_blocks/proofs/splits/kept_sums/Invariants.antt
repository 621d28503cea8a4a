use Rattle.std.proofs.Common.{◌*◌, length}
use Rattle.spl_blocks.specs.Splits.{AreKept, IsSumOf}
use Rattle.spl_blocks.proofs.splits.kept_sums.Given as goal

abbrev pub invariant-loop-i : goal.invariant-loop-i
invariant-loop-i g l = let o = g.F.Field.ops l.f in
    AreKept o l.a (l.i * length l.right) (IsSumOf o l.a l.left l.right) l.out
