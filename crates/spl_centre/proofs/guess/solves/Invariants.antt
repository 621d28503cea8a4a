use Rattle.std.proofs.Common.{ℕ, ◌<◌}
use Rattle.spl_field.specs.SmallField.{small_ops, small_laws}
use Rattle.spl_centre.specs.Guess.{SolvesAt}
use Rattle.spl_centre.proofs.guess.solves.Given as goal

abbrev pub invariant-loop-j : goal.invariant-loop-j
invariant-loop-j l = (j : ℕ) → j < l.j → (k : ℕ) → k < l.m
    → SolvesAt (small_ops l.f) (small_laws l.f) l.weights l.entries l.m l.scale j k
