-- The division of a row by reduced rows, on lists.
use Rattle.std.specs.Prelude.{◌≡◌, ℕ, ◌<◌, ◌≤◌, List, [], length, get_or, slice_set}
use Rattle.theory_rings.specs.Ops.{Ops}
use Rattle.theory_rings.specs.Polynomial.{IsTrimmed}
use Rattle.spl_poly.specs.Operations.{IsOver, IsSum}
use Rattle.theory_rows.specs.LeadingPositions.{HasLeadingPosition}
use Rattle.spl_lattice.specs.Reduction.{IsRowRest}

-- the row at i, one of reduced rows with these leading positions, leads where the given row does, and its degree is not
-- greater
pub record CanDivide {E : Type 0} (w : ℕ) (rows : List (List (List E))) (places : List ℕ) (row : List (List E)) (i : ℕ)
    : Type 0 where
  pub within : i < length rows
  pub leads : HasLeadingPosition w row (get_or places i 0)
  pub lower : length (get_or (get_or rows i []) (get_or places i 0) []) ≤ length (get_or row (get_or places i 0) [])

module _ {E : Type 0} (o : Ops E) where
  -- the new row is the old one, with q added to its entry at i
  pub record IsSumAt (i : ℕ) (row : List (List E)) (q : List E) (new : List (List E)) : Type 0 where
    pub sum : List E
    pub sum_over : IsOver o sum
    pub sum_trimmed : IsTrimmed o.zero sum
    pub value : IsSum o (get_or row i []) q sum
    pub whole : new ≡ slice_set row i sum

  -- the new row is the old one less q times another, where q is the quotient of their entries at p, and q is added to
  -- the coordinate at i
  pub record IsDivisionStep (p i : ℕ) (by row coordinates new_row new_coordinates : List (List E)) : Type 0 where
    pub rest : IsRowRest o p row by new_row
    pub added : IsSumAt i coordinates rest.quotient new_coordinates
