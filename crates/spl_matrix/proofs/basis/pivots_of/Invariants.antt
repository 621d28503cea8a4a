use Rattle.std.proofs.Common.{◌≡◌, ℕ, ◌<◌, [], length, get_or}
use Rattle.spl_matrix.specs.Spanning.{IsLeadingPlace}
use Rattle.spl_matrix.proofs.basis.pivots_of.Given as goal

abbrev pub invariant-loop-i : goal.invariant-loop-i
invariant-loop-i g l = let o = g.F.Field.ops l.f in record {
  long : length l.pivots ≡ l.i;
  each : (k : ℕ) → k < l.i → IsLeadingPlace o (get_or l.rows k []) (get_or l.pivots k 0);
}
