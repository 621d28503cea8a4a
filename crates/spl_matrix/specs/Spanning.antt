-- The vectors and matrices that the calls on subspaces make on their way.
use Rattle.std.specs.Prelude.{◌≡◌, ◌≢◌, ◌⊎◌, ◌+◌, ◌-◌, ◌<◌, ◌≤◌, ℕ, List, [], ◌++◌, length, get_or, cond, nat_eq}
use Rattle.std.specs.Prelude.{nat_lt}
use Rattle.theory_rings.specs.Ops.{Ops}
use Rattle.theory_rings.specs.Sum.{table, at}
use Rattle.theory_tables.specs.Matrix.{entry}
use Rattle.theory_tables.specs.Echelon.{IsReducedEchelon}

-- x is the place of j in the list, or the length of the list where j isn't in it
pub record IsPlace (xs : List ℕ) (j x : ℕ) : Type 0 where
  pub before : (s : ℕ) → s < x → get_or xs s 0 ≢ j
  pub here : x < length xs → get_or xs x 0 ≡ j
  pub past : (x < length xs) ⊎ (x ≡ length xs)

-- the matrix whose first p rows stand twice beside each other, and the others beside these zeros
abbrev pub doubled : {E : Type 0} → List E → ℕ → List (List E) → List (List E)
doubled zeros p rows = table (length rows) (λ i. get_or rows i [] ++ cond (nat_lt i p) (get_or rows i []) zeros)

module _ {E : Type 0} (o : Ops E) where
  -- p is the first place of the row with an item that is not 0, or the end of the row
  pub record IsLeadingPlace (row : List E) (p : ℕ) : Type 0 where
    pub before : (j : ℕ) → j < p → at o row j ≡ o.zero
    pub nonzero : p < length row → at o row p ≢ o.zero

  -- item l of the vector that a reduced matrix sends to 0, made for column j: 1 at j, less item j of the row whose
  -- pivot is in column l; where column j has a pivot, the vector is 0
  abbrev pub kernel_item : List (List E) → List ℕ → ℕ → ℕ → E
  kernel_item rows places j l = o.add (cond (nat_eq l j) o.one o.zero) (o.neg (entry o rows (get_or places l 0) j))

  -- each row is such a vector, and those for the columns below n without a pivot are all there
  pub record AreKernelRows (w : ℕ) (rows : List (List E)) (places : List ℕ) (n : ℕ)
      (vectors : List (List E)) : Type 0 where
    pub sound : (i : ℕ) → i < length vectors → (j : ℕ) × (j < w)
        × (get_or vectors i [] ≡ table w (kernel_item rows places j))
    pub complete : (j : ℕ) → j < n → length rows ≤ get_or places j 0 → (i : ℕ) × (i < length vectors)
        × (get_or vectors i [] ≡ table w (kernel_item rows places j))

  -- the rows from k on, from column w on
  abbrev pub right_part : ℕ → ℕ → List (List E) → List (List E)
  right_part w k rows = table (length rows - k) (λ i. table w (λ j. entry o rows (k + i) (w + j)))

  -- the rows of a reduced form of w + w columns whose pivots are not left of column w, from column w on
  pub record IsRightPart (w : ℕ) (rows part : List (List E)) : Type 0 where
    pub pivots : List ℕ
    pub k : ℕ
    pub each : length pivots ≡ length rows
    pub reduced : IsReducedEchelon o (length rows) rows pivots (w + w)
    pub within : k ≤ length pivots
    pub below : (s : ℕ) → s < k → get_or pivots s 0 < w
    pub above : k < length pivots → w ≤ get_or pivots k 0
    pub part_is : part ≡ right_part w k rows
