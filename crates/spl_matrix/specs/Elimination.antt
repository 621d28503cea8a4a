-- A step of the elimination, on the rows of a matrix.
use Rattle.std.specs.Prelude.{◌≡◌, ◌≢◌, ◌⊎◌, ◌+◌, ◌<◌, ◌≤◌, ℕ, List, [], ◌∷◌, ◌++◌, length, get_or, cond, nat_eq}
use Rattle.theory_rings.specs.Ops.{Ops, IsElem}
use Rattle.theory_rings.specs.Sum.{sum_of, table, at}
use Rattle.theory_tables.specs.Matrix.{entry, IsMatrix}
use Rattle.theory_tables.specs.Echelon.{IsReducedEchelon}

module _ {E : Type 0} (o : Ops E) where
  -- the row divided by its item in column col
  abbrev pub divided : ℕ → List E → ℕ → List E
  divided n row col = table n (λ j. o.mul (o.inv (at o row col)) (at o row j))

  -- row p divided by its item in column col
  abbrev pub lead_of : ℕ → List (List E) → ℕ → ℕ → List E
  lead_of n rows p col = divided n (get_or rows p []) col

  -- the row minus its item in column col times the lead
  abbrev pub reduced_by : ℕ → List E → ℕ → List E → List E
  reduced_by n row col lead = table n (λ j. o.add (at o row j) (o.mul (o.neg (at o row col)) (at o lead j)))

  -- row i after the lead, which is to stand in row r, cleared column col
  abbrev pub cleared_row : ℕ → List (List E) → ℕ → ℕ → List E → ℕ → List E
  cleared_row n rows r col lead i = cond (nat_eq i r) (get_or rows i []) (reduced_by n (get_or rows i []) col lead)

  -- row i after the pivot is moved from row p to row r and cleared from the other rows
  abbrev pub pivoted_row : ℕ → List (List E) → ℕ → ℕ → ℕ → ℕ → List E
  pivoted_row n rows p r col i =
      cond (nat_eq i r) (lead_of n rows p col)
      (reduced_by n (get_or rows (cond (nat_eq i p) r i) []) col (lead_of n rows p col))

  -- all h rows
  abbrev pub pivoted : ℕ → ℕ → List (List E) → ℕ → ℕ → ℕ → List (List E)
  pivoted h n rows p r col = table h (pivoted_row n rows p r col)

  -- column col has no pivot in the rows from r on, and all stays as it is
  pub record Skips (h col : ℕ) (rows rows' : List (List E)) (pivots pivots' : List ℕ) : Type 0 where
    pub none : (i : ℕ) → length pivots ≤ i → i < h → entry o rows i col ≡ o.zero
    pub same_rows : rows' ≡ rows
    pub same_pivots : pivots' ≡ pivots

  -- column col has its pivot in row p
  pub record Pivots (h n col : ℕ) (rows rows' : List (List E)) (pivots pivots' : List ℕ) : Type 0 where
    pub p : ℕ
    pub from : length pivots ≤ p
    pub within : p < h
    pub nonzero : entry o rows p col ≢ o.zero
    pub new_rows : rows' ≡ pivoted h n rows p (length pivots) col
    pub new_pivots : pivots' ≡ pivots ++ col ∷ []

  -- the step at column col
  abbrev pub IsStep : ℕ → ℕ → ℕ → List (List E) → List (List E) → List ℕ → List ℕ → Type 0
  IsStep h n col rows rows' pivots pivots' = Skips h col rows rows' pivots pivots'
      ⊎ Pivots h n col rows rows' pivots pivots'

  -- the row of n items with one at place i, and else zero
  abbrev pub identity_row : ℕ → ℕ → List E
  identity_row n i = table n (λ l. cond (nat_eq l i) o.one o.zero)

  -- the h rows with the identity after them
  abbrev pub augmented : ℕ → List (List E) → List (List E)
  augmented h a = table h (λ i. get_or a i [] ++ identity_row h i)

  -- the n columns from k on
  abbrev pub columns : ℕ → ℕ → ℕ → List (List E) → List (List E)
  columns h k n rows = table h (λ i. table n (λ j. entry o rows i (k + j)))

  -- each of the first h rows of b is a combination of the first h rows of a, over the first n columns
  pub record Combines (h n : ℕ) (a b : List (List E)) : Type 0 where
    pub weight : ℕ → ℕ → E
    pub weight-elem : (i k : ℕ) → IsElem o (weight i k)
    pub combines : (i j : ℕ) → i < h → j < n → sum_of o h (λ k. o.mul (weight i k) (entry o a k j)) ≡ entry o b i j

  -- the first w columns of the h by n matrix are brought into reduced row echelon form, and its rows and the new ones
  -- are combinations of each other
  pub record IsEliminated (h n w : ℕ) (rows rows' : List (List E)) (pivots : List ℕ) : Type 0 where
    pub shape : IsMatrix o n rows'
    pub height : length rows' ≡ h
    pub reduced : IsReducedEchelon o h rows' pivots w
    pub forth : Combines h n rows rows'
    pub back : Combines h n rows' rows
