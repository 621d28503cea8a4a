use Rattle.std.proofs.Common.{◌⊎◌, ◌<◌, ◌≤◌, ℕ, [], length, get_or}
use Rattle.spl_blocks.specs.Splits.{AreSplit, AreTracesScalars, combination_of}
use Rattle.spl_blocks.proofs.refine.refined_by_all.Given as goal

abbrev pub invariant-loop-t : goal.invariant-loop-t
invariant-loop-t g l = let o = g.F.Field.ops l.f in record {
  split : AreSplit o l.a l.items;
  done : (l.n ≤ length l.items) ⊎ ((t : ℕ) → t < l.t
      → AreTracesScalars o l.a l.one l.x l.q l.d (combination_of o l.a (get_or l.weights t []) l.rows) l.d l.items);
}
