-- Leading positions of rows of polynomials, as lists, and reduced rows. (Mulders and Storjohann, On lattice reduction
-- for polynomial matrices; Kailath, Linear Systems, section 6.3.)
use Rattle.std.specs.Prelude.{◌≡◌, ℕ, ◌+◌, ◌<◌, ◌≤◌, ℤ, pos, List, [], length, get_or}
use Rattle.theory_rings.specs.Polynomial.{degree}

module _ {E : Type 0} where
  -- of the first w entries, that at p is not 0, none is of greater degree, and those after it are of smaller degree
  pub record HasLeadingPosition (w : ℕ) (row : List (List E)) (p : ℕ) : Type 0 where
    pub inside : p < w
    pub nonzero : 0 < length (get_or row p [])
    pub within : (j : ℕ) → j < w → length (get_or row j []) ≤ length (get_or row p [])
    pub after : (j : ℕ) → j < w → p < j → length (get_or row j []) < length (get_or row p [])

  -- the first w entries are 0
  abbrev pub IsZeroUpTo : ℕ → List (List E) → Type 0
  IsZeroUpTo w row = (j : ℕ) → j < w → get_or row j [] ≡ []

  -- the places are the leading positions of the rows, and differ
  pub record HaveLeadingPositions (w : ℕ) (rows : List (List (List E))) (places : List ℕ) : Type 0 where
    pub count : length places ≡ length rows
    pub leads : (i : ℕ) → i < length rows → HasLeadingPosition w (get_or rows i []) (get_or places i 0)
    pub differ : (i k : ℕ) → i < length rows → k < length rows → get_or places i 0 ≡ get_or places k 0 → i ≡ k

  -- the degree of a row: that of the entry at its leading position
  abbrev pub row_degree : List (List (List E)) → List ℕ → ℕ → ℕ
  row_degree rows places i = degree (get_or (get_or rows i []) (get_or places i 0) [])

  -- the numbers are the degrees of the rows
  pub record HaveRowDegrees (rows : List (List (List E))) (places : List ℕ) (degrees : List ℤ) : Type 0 where
    pub count : length degrees ≡ length rows
    pub degree-is : (i : ℕ) → i < length rows → get_or degrees i (pos 0) ≡ pos (row_degree rows places i)

  -- weak Popov form without zero rows: the leading positions differ; with the degrees of the rows
  pub record AreReducedRows (w : ℕ) (rows : List (List (List E))) (degrees : List ℤ) : Type 0 where
    pub places : List ℕ
    pub positions : HaveLeadingPositions w rows places
    pub degrees_are : HaveRowDegrees rows places degrees

  -- the combination x with weights c leads where a row does; its degree is the sum of those of the weight and the row
  -- there, and that is the greatest such sum
  pub record HasPredictedDegree (w : ℕ) (rows : List (List (List E))) (places : List ℕ) (c x : List (List E))
      : Type 0 where
    pub row : ℕ
    pub within : row < length rows
    pub nonzero : 0 < length (get_or c row [])
    pub leads : HasLeadingPosition w x (get_or places row 0)
    pub degree-is : degree (get_or x (get_or places row 0) [])
        ≡ degree (get_or c row []) + row_degree rows places row
    pub greatest : (i : ℕ) → i < length rows → 0 < length (get_or c i [])
        → degree (get_or c i []) + row_degree rows places i ≤ degree (get_or c row []) + row_degree rows places row
