-- Sums of the multipliers that a list gives at pairs of numbers.
use Rattle.std.specs.Prelude.{ℕ, ◌+◌, List}
use Rattle.theory_rings.specs.Ops.{Ops}
use Rattle.theory_rings.specs.Sum.{sum_of}
use Rattle.theory_tables.specs.Conditions.{multiplier_at}

module _ {E : Type 0} (o : Ops E) (m : ℕ) (list : List (ℕ × ℕ × E)) where
  -- over all pairs of m numbers, of the multiplier there times c
  abbrev pub weighted_sum : (ℕ → ℕ → E) → E
  weighted_sum c = sum_of o m (λ j. sum_of o m (λ k. o.mul (multiplier_at o list (j + 1) (k + 1)) (c j k)))

  -- over the pairs of a number with itself
  abbrev pub diagonal_sum : E
  diagonal_sum = sum_of o m (λ j. multiplier_at o list (j + 1) (j + 1))
