-- What the steps to a generated ideal add to a list of rows.
use Rattle.std.specs.Prelude.{◌<◌, ℕ, List, [], length, get_or}
use Rattle.theory_rings.specs.Ops.{Ops}
use Rattle.theory_spaces.specs.Tuples.{basis, product}
use Rattle.theory_tables.specs.Matrix.{IsMatrix}
use Rattle.theory_tables.specs.Subspace.{InSpan, IsReducedBasis}
use Rattle.theory_tables.specs.Algebras.{SpansIdeal}

module _ {E : Type 0} (o : Ops E) (m : ℕ) where
  -- each row of one list is a combination of those of the other
  abbrev pub RowsIn : List (List E) → List (List E) → Type 0
  RowsIn a b = (r : ℕ) → r < length a → InSpan o m b (get_or a r [])

  module _ (cs : List E) where
    -- new has all combinations of old and the products of the row with the basis elements below n, and lies in each
    -- ideal that holds old and the row
    pub record AddsMultiples (n : ℕ) (row : List E) (old new : List (List E)) : Type 0 where
      pub shape : IsMatrix o m new
      pub keeps : RowsIn old new
      pub left : (i : ℕ) → i < n → InSpan o m new (product o m cs (basis o m i) row)
      pub right : (i : ℕ) → i < n → InSpan o m new (product o m cs row (basis o m i))
      pub only : (other : List (List E)) → SpansIdeal o (record { dim = m; constants = cs }) other → RowsIn old other
          → InSpan o m other row
          → RowsIn new other

    -- new has all combinations of the rows and the products of the first n of them with all basis elements, and lies in
    -- each ideal that holds the rows
    pub record HoldsMultiples (n : ℕ) (rows new : List (List E)) : Type 0 where
      pub shape : IsMatrix o m new
      pub keeps : RowsIn rows new
      pub left : (i r : ℕ) → i < m → r < n → InSpan o m new (product o m cs (basis o m i) (get_or rows r []))
      pub right : (i r : ℕ) → i < m → r < n → InSpan o m new (product o m cs (get_or rows r []) (basis o m i))
      pub only : (other : List (List E)) → SpansIdeal o (record { dim = m; constants = cs }) other → RowsIn rows other
          → RowsIn new other

    -- a subspace that holds the combinations of `by`, and lies in each ideal that does
    pub record IsBetween (by rows : List (List E)) : Type 0 where
      pub basis : IsReducedBasis o m rows
      pub holds : RowsIn by rows
      pub least : (other : List (List E)) → SpansIdeal o (record { dim = m; constants = cs }) other → RowsIn by other
          → RowsIn rows other
