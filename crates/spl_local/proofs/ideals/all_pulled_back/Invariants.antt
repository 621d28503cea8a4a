use Rattle.std.proofs.Common.{◌≡◌, ◌<◌, ℕ, length, get_or}
use Rattle.theory_tables.specs.Subspace.{Rows}
use Rattle.spl_local.specs.PulledBack.{IsPulledBack}
use Rattle.spl_local.proofs.ideals.all_pulled_back.Given as goal

abbrev pub invariant-loop-i : goal.invariant-loop-i
invariant-loop-i g l = record {
  count : length l.above ≡ l.i;
  each : (j : ℕ) (b a : Rows g.row.F-Elem.Denot) → j < l.i → IsPulledBack (g.F.Field.ops l.f) l.a l.lifts l.ideal.rows
      (get_or l.below j b) (get_or l.above j a);
}
