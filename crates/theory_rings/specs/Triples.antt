-- The order of triples of numbers.
use Rattle.std.specs.Prelude.{◌≡◌, ◌⊎◌, ℕ, ◌<◌}

-- (i, j, k) comes before (i', j', k') in lexicographic order
abbrev pub ComesBefore : ℕ → ℕ → ℕ → ℕ → ℕ → ℕ → Type 0
ComesBefore i j k i' j' k' = (i < i') ⊎ ((i ≡ i') × ((j < j') ⊎ ((j ≡ j') × (k < k'))))
