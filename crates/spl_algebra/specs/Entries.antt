-- The constants of an algebra that are not 0, row by row.
use Rattle.std.specs.Prelude.{◌≡◌, ◌≢◌, ◌+◌, ◌-◌, ◌*◌, ◌<◌, ℕ, List, [], length, get_or}
use Rattle.theory_rings.specs.Ops.{Ops}
use Rattle.theory_rings.specs.Sum.{at}
use Rattle.theory_spaces.specs.Tuples.{constant}
use Rattle.theory_tables.specs.Structure.{Structure}

-- a list of the values of a row of n that are not 0, each with its place counted from 1, by increasing place
pub record ListsNonzero {E : Type 0} (zero : E) (n : ℕ) (row : ℕ → E) (list : List (ℕ × E)) : Type 0 where
  pub of_row : (s : ℕ) → s < length list
      → (k : ℕ) × (k < n) × (row k ≢ zero) × (get_or list s (0, zero) ≡ (k + 1, row k))
  pub each : (k : ℕ) → k < n → row k ≢ zero
      → (s : ℕ) × (s < length list) × (get_or list s (0, zero) ≡ (k + 1, row k))
  pub order : (s t : ℕ) → s < t → t < length list → (get_or list s (0, zero)).0 < (get_or list t (0, zero)).0

-- the pairs (k, c) of the constants c at (i, j, k) that are not 0, by increasing k; i, j and k are counted from 1
abbrev pub AreEntries : {E : Type 0} → Ops E → Structure E → ℕ → ℕ → List (ℕ × E) → Type 0
AreEntries o A i j list = ListsNonzero o.zero A.dim (constant o A.dim A.constants (i - 1) (j - 1)) list

-- n lists, of which the one at r is for row r of m constants; with m² of them the one for the basis elements i and j,
-- counted from 0, is at i·m + j
pub record AreRowEntries {E : Type 0} (o : Ops E) (m : ℕ) (cs : List E) (n : ℕ) (lists : List (List (ℕ × E)))
    : Type 0 where
  pub count : length lists ≡ n
  pub row : (r : ℕ) → r < n → ListsNonzero o.zero m (λ k. at o cs (r * m + k)) (get_or lists r [])
