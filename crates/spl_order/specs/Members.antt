-- Coordinates, in a basis of tuples, of rows of polynomials over a denominator, the part of a denominator at a place, and
-- tests by a divisor.
use Rattle.std.specs.Prelude.{◌≡◌, ◌≢◌, ◌↔◌, ◌<◌, ℕ, List, [], length, get_or, map}
use Rattle.theory_rings.specs.Ops.{Ops, FieldLaws}
use Rattle.theory_rings.specs.Sum.{at, sum_of}
use Rattle.theory_tables.specs.Matrix.{entry}
use Rattle.theory_fractions.specs.PolynomialLists.{IsPolynomialList, Divides}
use Rattle.theory_fractions.specs.Fraction.{Pair}
use Rattle.theory_fractions.specs.FractionOps.{fraction_ops}
use Rattle.theory_fractions.specs.CommonDenominator.{as_fraction}
use Rattle.theory_places.specs.Places.{Finite}
use Rattle.theory_places.specs.FractionPlaces.{IsIntegralAt}
use Rattle.theory_rows.specs.Rows.{IsPolynomialRow, IsPolynomialMatrix}
use Rattle.theory_bases.specs.Bases.{fraction_over}
use Rattle.spl_order.specs.Values.{HasRow, fraction_entry}

module _ {E : Type 0} (o : Ops E) (L : FieldLaws o) where
  -- p divides exactly the numerators of those fractions over s that are integral at m
  pub record IsPartAt (m s p : List E) : Type 0 where
    pub polynomial : IsPolynomialList o p
    pub nonzero : p ≢ []
    pub tells : (u : List E) → IsPolynomialList o u
        → Divides o p u ↔ IsIntegralAt o (Finite m) (fraction_over o L s u)

  -- the items of the product of a row and a matrix
  abbrev pub row_product : (row : List (List E)) → (columns : List (List (List E))) → ℕ → Pair E
  row_product row columns j =
      let K : Ops (Pair E) = fraction_ops o L in
      sum_of K (length columns) (λ k. K.mul (as_fraction o (get_or row k [])) (fraction_entry o columns k j))

  -- the products of rows of n polynomials and the columns are, over scale, which is not 0, the coordinates in n tuples
  -- of the rows over d
  pub record AreCoordinateColumns (n : ℕ) (tuples : List (List (Pair E))) (d scale : List E)
      (columns : List (List (List E))) : Type 0 where
    pub polynomial : IsPolynomialList o scale
    pub nonzero : scale ≡ [] → ⊥
    pub matrix : IsPolynomialMatrix o n columns
    pub count : length columns ≡ n
    pub combines : (row items : List (List E)) → IsPolynomialRow o n row → HasRow o (row_product row columns) n items
        → (c : ℕ) → c < n → (let K : Ops (Pair E) = fraction_ops o L in at K (map (fraction_over o L d) row) c
        ≡ sum_of K n (λ l. K.mul (fraction_over o L scale (get_or items l [])) (entry K tuples l c)))

  -- the n items of the product of the row and the matrix are multiples of part
  pub record HasDividedProduct (part : List E) (n : ℕ) (columns : List (List (List E)))
      (row : List (List E)) : Type 0 where
    pub items : List (List E)
    pub product : HasRow o (row_product row columns) n items
    pub divided : (l : ℕ) → l < n → Divides o part (get_or items l [])
