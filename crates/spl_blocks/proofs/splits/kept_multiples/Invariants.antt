use Rattle.spl_blocks.specs.Splits.{AreKept, IsMultiples}
use Rattle.spl_blocks.proofs.splits.kept_multiples.Given as goal

abbrev pub invariant-loop-r : goal.invariant-loop-r
invariant-loop-r g l = let o = g.F.Field.ops l.f in AreKept o l.a l.r (IsMultiples o l.a l.one l.t l.constants) l.out
