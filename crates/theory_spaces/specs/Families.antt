-- Families, as functions from the numbers of which the first n count: one more member at the end.
use Rattle.std.specs.Prelude.{ℕ, cond, ltb}

-- v below n, and x from there on
abbrev pub push : {X : Type 0} → ℕ → X → (ℕ → X) → ℕ → X
push n x v i = cond (ltb i n) (v i) x
