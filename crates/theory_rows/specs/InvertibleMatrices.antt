-- Invertible matrices of polynomials, also called unimodular. (Kailath, Linear Systems, section 6.3.)
use Rattle.std.specs.Prelude.{◌≡◌, ℕ, ◌<◌, List, [], length, get_or}
use Rattle.theory_rings.specs.Ops.{Ops}
use Rattle.theory_rows.specs.Rows.{IsPolynomialMatrix, IsRowCombination, IsRowTransform, IsUnimodularImage}
use Rattle.theory_rows.specs.Augmented.{unit_row}

module _ {E : Type 0} (o : Ops E) where
  -- n rows of n polynomials
  pub record IsSquarePolynomialMatrix (n : ℕ) (t : List (List (List E))) : Type 0 where
    pub matrix : IsPolynomialMatrix o n t
    pub count : length t ≡ n

  -- the product s · t of n by n matrices is the unit matrix
  abbrev pub IsLeftInverse : ℕ → (s t : List (List (List E))) → Type 0
  IsLeftInverse n s t = (i : ℕ) → i < n → IsRowCombination o (get_or s i []) t (unit_row o.one n i)

  -- a square matrix with an inverse
  pub record IsInvertibleMatrix (n : ℕ) (t : List (List (List E))) : Type 0 where
    pub square : IsSquarePolynomialMatrix n t
    pub inverse : List (List (List E))
    pub inverse_square : IsSquarePolynomialMatrix n inverse
    pub left : IsLeftInverse n inverse t
    pub right : IsLeftInverse n t inverse

  -- rows and those that an invertible transform makes of them have the same lattice, and where the ones are
  -- independent, so are the others
  abbrev pub InvertibleTransformsKeepLattices : Type 0
  InvertibleTransformsKeepLattices = (w : ℕ) (rows new transform : List (List (List E))) → IsPolynomialMatrix o w rows
      → IsPolynomialMatrix o w new → IsRowTransform o rows new transform → IsInvertibleMatrix (length rows) transform
      → IsUnimodularImage o w rows new
