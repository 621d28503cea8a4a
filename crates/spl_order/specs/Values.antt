-- Rows and matrices of polynomials, by the values of their entries as fractions.
use Rattle.std.specs.Prelude.{◌≡◌, ◌<◌, ℕ, List, [], length, get_or, cond, nat_eq}
use Rattle.theory_rings.specs.Ops.{Ops, FieldLaws}
use Rattle.theory_rings.specs.Sum.{sum_of, table}
use Rattle.theory_fractions.specs.PolynomialLists.{IsPolynomialList}
use Rattle.theory_fractions.specs.Fraction.{Pair}
use Rattle.theory_fractions.specs.FractionOps.{fraction_ops}
use Rattle.theory_fractions.specs.CommonDenominator.{as_fraction}
use Rattle.theory_bases.specs.Bases.{fraction_over}
use Rattle.theory_rows.specs.Rows.{IsPolynomialRow, IsPolynomialMatrix, IsRowCombination}

module _ {E : Type 0} (o : Ops E) where
  -- w polynomials with these values
  pub record HasRow (value : ℕ → Pair E) (w : ℕ) (row : List (List E)) : Type 0 where
    pub count : length row ≡ w
    pub polynomials : (j : ℕ) → j < w → IsPolynomialList o (get_or row j [])
    pub values : (j : ℕ) → j < w → as_fraction o (get_or row j []) ≡ value j

  -- h rows of w polynomials with these values
  pub record HasMatrix (value : ℕ → ℕ → Pair E) (h w : ℕ) (rows : List (List (List E))) : Type 0 where
    pub count : length rows ≡ h
    pub each : (i : ℕ) → i < h → HasRow (value i) w (get_or rows i [])

  -- the entry in row i and column j
  abbrev pub fraction_entry : List (List (List E)) → ℕ → ℕ → Pair E
  fraction_entry rows i j = as_fraction o (get_or (get_or rows i []) j [])

-- the row of n polynomials that is c at the place i, and else 0
abbrev pub scaled_unit : {E : Type 0} → List E → ℕ → ℕ → List (List E)
scaled_unit c n i = table n (λ k. cond (nat_eq k i) c [])

module _ {E : Type 0} (o : Ops E) where
  -- the first m rows are weights that combine the rows to the units of n places times the polynomial
  pub record AreUnitCoordinates (rows : List (List (List E))) (n : ℕ) (scale : List E) (m : ℕ)
      (weights : List (List (List E))) : Type 0 where
    pub count : length weights ≡ m
    pub polynomials : (i : ℕ) → i < m → IsPolynomialRow o (length rows) (get_or weights i [])
    pub combines : (i : ℕ) → i < m → IsRowCombination o (get_or weights i []) rows (scaled_unit scale n i)

module _ {E : Type 0} (o : Ops E) (L : FieldLaws o) where
  -- the entries of the product of two matrices, over n middle places
  abbrev pub product_entry : ℕ → (a b : List (List (List E))) → ℕ → ℕ → Pair E
  product_entry n a b i j =
      let K : Ops (Pair E) = fraction_ops o L in
      sum_of K n (λ k. K.mul (fraction_entry o a i k) (fraction_entry o b k j))

  -- d times u / c
  abbrev pub multiple_over : (d c u : List E) → Pair E
  multiple_over d c u = let K : Ops (Pair E) = fraction_ops o L in K.mul (as_fraction o d) (fraction_over o L c u)

  -- the product of n rows and the n given ones is the polynomial, which is not 0, on the diagonal, and else 0
  pub record IsScaledInverse (n : ℕ) (rows inverse : List (List (List E))) (scale : List E) : Type 0 where
    pub matrix : IsPolynomialMatrix o n inverse
    pub count : length inverse ≡ n
    pub polynomial : IsPolynomialList o scale
    pub nonzero : scale ≡ [] → ⊥
    pub left : (i j : ℕ) → i < n → j < n
        → product_entry n inverse rows i j ≡ as_fraction o (cond (nat_eq j i) scale [])
