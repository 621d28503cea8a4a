-- Rows of polynomials over a program's field, each polynomial as the list of its coefficients, that of power 0 first,
-- and the lattices that they span over the polynomials. (Kailath, Linear Systems, section 6.3.)
use Rattle.std.specs.Prelude.{◌≡◌, ℕ, ◌<◌, ◌↔◌, List, [], length, get_or}
use Rattle.std.specs.List.{All}
use Rattle.theory_rings.specs.Ops.{Ops}
use Rattle.theory_rings.specs.Sum.{at, sum_of}
use Rattle.theory_rings.specs.Polynomial.{IsTrimmed, convolution_of}
use Rattle.theory_fractions.specs.PolynomialLists.{IsOver, IsSum}

module _ {E : Type 0} (o : Ops E) where
  -- w polynomials over the field
  pub record IsPolynomialRow (w : ℕ) (row : List (List E)) : Type 0 where
    pub width : length row ≡ w
    pub over : All (IsOver o) row
    pub trimmed : All (IsTrimmed o.zero) row

  -- rows of w polynomials
  abbrev pub IsPolynomialMatrix : ℕ → List (List (List E)) → Type 0
  IsPolynomialMatrix w rows = All (IsPolynomialRow w) rows

  -- x is the combination of the rows with polynomial weights c: coefficient k of its entry j is that of the sum of the
  -- products of weight i and entry j of row i; all entries past the end are 0
  abbrev pub IsRowCombination : List (List E) → List (List (List E)) → List (List E) → Type 0
  IsRowCombination c rows x =
      (j k : ℕ) → at o (get_or x j []) k ≡ sum_of o (length rows)
      (λ i. convolution_of o (at o (get_or c i [])) (at o (get_or (get_or rows i []) j [])) k)

  -- x is in the row lattice: a combination of the rows with polynomial weights
  pub record InRowLattice (rows : List (List (List E))) (x : List (List E)) : Type 0 where
    pub weights : List (List E)
    pub polynomials : IsPolynomialRow (length rows) weights
    pub combines : IsRowCombination weights rows x

  -- both have the same row lattice
  abbrev pub SameRowLattice : ℕ → List (List (List E)) → List (List (List E)) → Type 0
  SameRowLattice w a b = (x : List (List E)) → IsPolynomialRow w x → InRowLattice a x ↔ InRowLattice b x

  -- the combination with weights c is 0 where all weights are 0, and nowhere else
  abbrev pub RowsAreIndependent : List (List (List E)) → Type 0
  RowsAreIndependent rows = (c : List (List E)) → IsPolynomialRow (length rows) c → IsRowCombination c rows []
      → (i : ℕ) → get_or c i [] ≡ []

  -- independent rows whose lattice is the set S of rows of w polynomials
  pub record IsLatticeBasis (w : ℕ) (S : List (List E) → Type 0) (rows : List (List (List E))) : Type 0 where
    pub matrix : IsPolynomialMatrix w rows
    pub independent : RowsAreIndependent rows
    pub members : (x : List (List E)) → IsPolynomialRow w x → S x ↔ InRowLattice rows x

  -- the weights whose combination is 0
  abbrev pub InRowKernel : List (List (List E)) → List (List E) → Type 0
  InRowKernel rows c = IsRowCombination c rows []

  -- x is the sum of a row of one lattice and a row of another
  pub record InLatticeSum (w : ℕ) (a b : List (List (List E))) (x : List (List E)) : Type 0 where
    pub left : List (List E)
    pub right : List (List E)
    pub left_row : IsPolynomialRow w left
    pub right_row : IsPolynomialRow w right
    pub left_in : InRowLattice a left
    pub right_in : InRowLattice b right
    pub sum : (j : ℕ) → IsSum o (get_or left j []) (get_or right j []) (get_or x j [])

  -- x is in both lattices
  abbrev pub InLatticeMeet : List (List (List E)) → List (List (List E)) → List (List E) → Type 0
  InLatticeMeet a b x = InRowLattice a x × InRowLattice b x

  -- each row of the transform has the weights of that row of the new ones
  pub record IsRowTransform (rows new transform : List (List (List E))) : Type 0 where
    pub matrix : IsPolynomialMatrix (length rows) transform
    pub count : length transform ≡ length new
    pub combines : (i : ℕ) → i < length new → IsRowCombination (get_or transform i []) rows (get_or new i [])

  -- what an invertible transform keeps: the lattice, and independence
  pub record IsUnimodularImage (w : ℕ) (rows new : List (List (List E))) : Type 0 where
    pub same : SameRowLattice w rows new
    pub independent : RowsAreIndependent rows → RowsAreIndependent new
