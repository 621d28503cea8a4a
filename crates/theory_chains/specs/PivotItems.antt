-- Tuples by their items at the pivots of rows.
use Rattle.std.specs.Prelude.{◌≡◌, ◌≢◌, ◌⊎◌, ℕ, ◌<◌, List, length, get_or}

-- the item of a tuple in column j: in the column of the pivot of row s one that has the property P of s, and zero in a
-- column without a pivot
abbrev pub IsPivotItem : {E : Type 0} → E → List ℕ → (ℕ → E → Type 0) → ℕ → E → Type 0
IsPivotItem zero pivots P j x = ((s : ℕ) × (s < length pivots) × (get_or pivots s 0 ≡ j) × P s x)
    ⊎ (((s : ℕ) → s < length pivots → get_or pivots s 0 ≢ j) × (x ≡ zero))
