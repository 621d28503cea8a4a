-- Fractions of polynomials as polynomials over one denominator. (Lang, Algebra, chapter IV.)
use Rattle.std.specs.Prelude.{◌≡◌, ℕ, ◌<◌, List, [], ◌∷◌, length, get_or}
use Rattle.theory_rings.specs.Ops.{Ops}
use Rattle.theory_rings.specs.Sum.{at}
use Rattle.theory_rings.specs.Polynomial.{convolution_of, degree}
use Rattle.theory_fractions.specs.Fraction.{Pair}
use Rattle.theory_fractions.specs.PolynomialLists.{IsOver, Divides}

module _ {E : Type 0} (o : Ops E) where
  -- the polynomial as a fraction
  abbrev pub as_fraction : List E → Pair E
  as_fraction p = (p, o.one ∷ [])

  -- d times the fraction u / v is a polynomial p: d · u = p · v
  abbrev pub Clears : List E → Pair E → Type 0
  Clears d w = (p : List E) × IsOver o p
      × ((k : ℕ) → convolution_of o (at o d) (at o w.0) k ≡ convolution_of o (at o p) (at o w.1) k)

  -- m is monic, a multiple of a and of b, and divides each other such multiple
  pub record IsLeastMultiple (a b m : List E) : Type 0 where
    pub monic : at o m (degree m) ≡ o.one
    pub left : Divides o a m
    pub right : Divides o b m
    pub least : (d : List E) → IsOver o d → Divides o a d → Divides o b d → Divides o m d

  -- c is monic, each fraction of the list times c is a polynomial, and c divides each polynomial with this property
  pub record IsCommonDenominator (list : List (Pair E)) (c : List E) : Type 0 where
    pub monic : at o c (degree c) ≡ o.one
    pub clears : (i : ℕ) → i < length list → Clears c (get_or list i ([], []))
    pub least : (d : List E) → IsOver o d → ((i : ℕ) → i < length list → Clears d (get_or list i ([], [])))
        → Divides o c d
