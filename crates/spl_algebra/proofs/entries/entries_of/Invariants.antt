use Rattle.spl_algebra.specs.Entries.{AreRowEntries}
use Rattle.spl_algebra.proofs.entries.entries_of.Given as goal

abbrev pub invariant-loop-r : goal.invariant-loop-r
invariant-loop-r g l = AreRowEntries (g.F.Field.ops l.f) l.m l.constants l.r l.lists
