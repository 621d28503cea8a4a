use Rattle.std.specs.Prelude.{◌≢◌, ◌<◌, ℕ, get_or}
use Rattle.spl_radical.proofs.radical.weight_at.Given as goal

abbrev pub invariant-loop-s : goal.invariant-loop-s
invariant-loop-s l = (t : ℕ) → t < l.s → get_or l.pivots t 0 ≢ l.j
