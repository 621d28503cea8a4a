-- Subspaces of tuples, by a basis in reduced row echelon form; the vectors that a matrix sends to 0.
use Rattle.std.specs.Prelude.{◌≡◌, ◌↔◌, ◌<◌, ℕ, List, length}
use Rattle.theory_rings.specs.Ops.{Ops}
use Rattle.theory_rings.specs.Sum.{sum_of, at}
use Rattle.theory_spaces.specs.Tuples.{IsTuple}
use Rattle.theory_tables.specs.Matrix.{entry, IsMatrix}
use Rattle.theory_tables.specs.Echelon.{IsReducedEchelon}

-- what contracts see of a subspace: the length of its vectors, and its basis
pub record Rows (E : Type 0) : Type 0 where
  pub width : ℕ
  pub rows : List (List E)

module _ {E : Type 0} (o : Ops E) where
  -- v is a combination of the rows, with w columns
  abbrev pub InSpan : ℕ → List (List E) → List E → Type 0
  InSpan w rows v = (c : List E) × IsTuple o (length rows) c
      × ((j : ℕ) → j < w → at o v j ≡ sum_of o (length rows) (λ i. o.mul (at o c i) (entry o rows i j)))

  -- the set of the tuples that are combinations of the rows
  abbrev pub Combinations : ℕ → List (List E) → List E → Type 0
  Combinations w rows v = IsTuple o w v × InSpan w rows v

  -- two matrices with w columns have the same combinations
  abbrev pub SameSpan : ℕ → List (List E) → List (List E) → Type 0
  SameSpan w a b = (v : List E) → IsTuple o w v → (InSpan w a v ↔ InSpan w b v)

  -- the rows are a basis in reduced row echelon form: rows of w elements, each with a pivot
  pub record IsReducedBasis (w : ℕ) (rows : List (List E)) : Type 0 where
    pub shape : IsMatrix o w rows
    pub pivots : List ℕ
    pub each : length pivots ≡ length rows
    pub reduced : IsReducedEchelon o (length rows) rows pivots w

  abbrev pub IsSubspace : Rows E → Type 0
  IsSubspace s = IsReducedBasis s.width s.rows

  -- v is the sum of a combination of the rows of a and one of the rows of b
  pub record IsSum (w : ℕ) (a b : List (List E)) (v : List E) : Type 0 where
    pub left : List E
    pub right : List E
    pub left_tuple : IsTuple o w left
    pub right_tuple : IsTuple o w right
    pub in_left : InSpan w a left
    pub in_right : InSpan w b right
    pub adds : (j : ℕ) → j < w → at o v j ≡ o.add (at o left j) (at o right j)

  -- the combinations of the rows are the sums of those of a and of b
  abbrev pub SpansSum : ℕ → List (List E) → List (List E) → List (List E) → Type 0
  SpansSum w rows a b = (v : List E) → IsTuple o w v → (InSpan w rows v ↔ IsSum w a b v)

  -- the combinations of the rows are those of a that are those of b too
  abbrev pub SpansMeet : ℕ → List (List E) → List (List E) → List (List E) → Type 0
  SpansMeet w rows a b = (v : List E) → IsTuple o w v → (InSpan w rows v ↔ (InSpan w a v × InSpan w b v))

  -- the matrix with h rows and w columns sends v to 0
  abbrev pub IsKilled : ℕ → ℕ → List (List E) → List E → Type 0
  IsKilled h w a v = (i : ℕ) → i < h → sum_of o w (λ j. o.mul (entry o a i j) (at o v j)) ≡ o.zero

  -- the combinations of the rows are the vectors that the matrix with h rows and w columns sends to 0
  abbrev pub SpansKernel : ℕ → ℕ → List (List E) → List (List E) → Type 0
  SpansKernel h w a rows = (v : List E) → IsTuple o w v → (InSpan w rows v ↔ IsKilled h w a v)

  -- 0 is a combination of the rows in one way only
  abbrev pub AreIndependent : ℕ → List (List E) → Type 0
  AreIndependent w rows = (c : List E) → IsTuple o (length rows) c
      → ((j : ℕ) → j < w → sum_of o (length rows) (λ i. o.mul (at o c i) (entry o rows i j)) ≡ o.zero)
      → (i : ℕ) → i < length rows → at o c i ≡ o.zero

  -- subspaces with the same vectors have the same basis in reduced row echelon form
  abbrev pub SameSubspaceSameRows : Type 0
  SameSubspaceSameRows = (w : ℕ) (a b : List (List E)) → IsReducedBasis w a → IsReducedBasis w b → SameSpan w a b
      → a ≡ b

  -- a basis in reduced row echelon form is independent
  abbrev pub ReducedBasisIsIndependent : Type 0
  ReducedBasisIsIndependent = (w : ℕ) (rows : List (List E)) → IsReducedBasis w rows → AreIndependent w rows
