use Rattle.std.proofs.Common.{◌≡◌, ℕ, ◌<◌, length, get_or}
use Rattle.spl_matrix.specs.Spanning.{IsPlace}
use Rattle.spl_matrix.proofs.kernel.places_of.Given as goal

abbrev pub invariant-loop-j : goal.invariant-loop-j
invariant-loop-j l = record {
  long : length l.places ≡ l.j;
  each : (k : ℕ) → k < l.j → IsPlace l.indices k (get_or l.places k 0);
}
