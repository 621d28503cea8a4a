use Rattle.std.proofs.Common.{◌≡◌, ◌<◌, ℕ, length, get_or, pos}
use Rattle.theory_rows.specs.LeadingPositions.{row_degree}
use Rattle.spl_lattice.proofs.reduced.degrees_of.Given as goal

abbrev pub invariant-loop-i : goal.invariant-loop-i
invariant-loop-i l = record {
  count : length l.degrees ≡ l.i;
  each : (k : ℕ) → k < l.i → get_or l.degrees k (pos 0) ≡ pos (row_degree l.rows l.places k);
}
