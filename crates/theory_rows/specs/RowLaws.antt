-- What the laws of rows of polynomials say.
use Rattle.std.specs.Prelude.{◌≡◌, ℕ, ◌⊎◌, List, [], length, get_or}
use Rattle.theory_rings.specs.Ops.{Ops}
use Rattle.theory_rows.specs.Rows.{IsPolynomialRow, IsPolynomialMatrix, IsRowCombination, RowsAreIndependent}
use Rattle.theory_rows.specs.LeadingPositions.{HaveLeadingPositions, HasPredictedDegree}

module _ {E : Type 0} (o : Ops E) where
  -- the degree of a combination of reduced rows is the greatest degree of a weight times its row, where not all weights
  -- are 0
  abbrev pub PredictableDegrees : Type 0
  PredictableDegrees = (w : ℕ) (rows : List (List (List E))) (places : List ℕ) (c x : List (List E))
      → IsPolynomialMatrix o w rows → HaveLeadingPositions w rows places → IsPolynomialRow o (length rows) c
      → IsPolynomialRow o w x → IsRowCombination o c rows x
      → HasPredictedDegree w rows places c x ⊎ ((i : ℕ) → get_or c i [] ≡ [])

  -- reduced rows are independent
  abbrev pub ReducedRowsAreIndependent : Type 0
  ReducedRowsAreIndependent = (w : ℕ) (rows : List (List (List E))) (places : List ℕ) → IsPolynomialMatrix o w rows
      → HaveLeadingPositions w rows places → RowsAreIndependent o rows
