-- Tuples of fractions of polynomials as rows of polynomials over one denominator. (Cohen, A Course in Computational
-- Algebraic Number Theory, section 4.7, on modules by a matrix and a denominator.)
use Rattle.std.specs.Prelude.{◌≡◌, ℕ, List, [], ◌∷◌, map}
use Rattle.std.specs.List.{All}
use Rattle.theory_rings.specs.Ops.{Ops, FieldLaws}
use Rattle.theory_rings.specs.Sum.{at}
use Rattle.theory_rings.specs.Polynomial.{degree}
use Rattle.theory_fractions.specs.PolynomialLists.{IsOver, IsPolynomialList, Divides}
use Rattle.theory_fractions.specs.Fraction.{Pair}
use Rattle.theory_fractions.specs.FractionOps.{fraction_ops}
use Rattle.theory_fractions.specs.CommonDenominator.{as_fraction, Clears}
use Rattle.theory_rows.specs.Rows.{IsPolynomialMatrix}
use Rattle.theory_bases.specs.TupleLattices.{AreIndependentTuples}

-- a denominator, and rows of numerators
pub record BasisForm (E : Type 0) : Type 0 where
  pub denominator : List E
  pub numerators : List (List (List E))

module _ {E : Type 0} (o : Ops E) where
  -- the fraction is a polynomial: its denominator is 1
  abbrev pub IsPolynomialFraction : Pair E → Type 0
  IsPolynomialFraction w = w.1 ≡ o.one ∷ []

  -- c is monic, each fraction of the tuples times c is a polynomial, and c divides each polynomial with this property
  pub record IsDenominatorOf (tuples : List (List (Pair E))) (c : List E) : Type 0 where
    pub monic : at o c (degree c) ≡ o.one
    pub clears : All (All (Clears o c)) tuples
    pub least : (d : List E) → IsOver o d → All (All (Clears o d)) tuples → Divides o c d

module _ {E : Type 0} (o : Ops E) (L : FieldLaws o) where
  -- u / c, in lowest terms
  abbrev pub fraction_over : List E → List E → Pair E
  fraction_over c u = let K = fraction_ops o L in K.mul (as_fraction o u) (K.inv (as_fraction o c))

  -- the tuples: each numerator over the denominator
  abbrev pub tuples_of : BasisForm E → List (List (Pair E))
  tuples_of b = map (map (fraction_over b.denominator)) b.numerators

  -- n independent tuples of n fractions; the denominator is the monic polynomial of least degree that makes each
  -- fraction of them a polynomial
  pub record IsBasis (n : ℕ) (b : BasisForm E) : Type 0 where
    pub rows : IsPolynomialMatrix o n b.numerators
    pub polynomial : IsPolynomialList o b.denominator
    pub least : IsDenominatorOf o (tuples_of b) b.denominator
    pub independent : AreIndependentTuples (fraction_ops o L) n (tuples_of b)
