use Rattle.std.proofs.Common.{ℕ, ◌<◌}
use Rattle.spl_field.specs.SmallField.{small_ops, small_laws}
use Rattle.spl_centre.specs.Guess.{SolvesAt}
use Rattle.spl_centre.proofs.guess.solves_all_at.Given as goal

abbrev pub invariant-loop-k : goal.invariant-loop-k
invariant-loop-k l = (k : ℕ) → k < l.k → SolvesAt (small_ops l.f) (small_laws l.f) l.weights l.entries l.m l.scale l.j k
