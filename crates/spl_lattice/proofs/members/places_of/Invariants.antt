use Rattle.std.proofs.Common.{◌≡◌, ◌<◌, ℕ, [], length, get_or}
use Rattle.theory_rows.specs.LeadingPositions.{HasLeadingPosition}
use Rattle.spl_lattice.proofs.members.places_of.Given as goal

abbrev pub invariant-loop-i : goal.invariant-loop-i
invariant-loop-i l = record {
  count : length l.places.items ≡ l.i;
  each : (k : ℕ) → k < l.i → HasLeadingPosition l.w (get_or l.basis.basis k []) (get_or l.places.items k 0);
}
