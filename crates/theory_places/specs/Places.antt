-- The places of a field of rational functions: the monic irreducible polynomials, and infinity; what is integral there,
-- and the uniformizer. (Reiner, Maximal Orders, section 4; Stichtenoth, Algebraic Function Fields and Codes, section
-- 1.2.)
use Rattle.std.specs.Prelude.{◌≡◌, ◌≤◌, IsTrue, ◌⊎◌, ◌↔◌}
use Rattle.theory_rings.specs.Ring.{FieldOn}
use Rattle.theory_rings.specs.Polynomial.{Poly, IsMonic, degree}
use Rattle.theory_rings.specs.Division.{Divides, IsIrreducible}
use Rattle.theory_rings.specs.Fraction.{IsValue, IsLowest}
use Rattle.theory_spaces.specs.Valuation.{ValuationOn}
use Rattle.theory_orders.specs.Uniformizer.{IsIntegral, UniformizerOn}
use Rattle.theory_lattices.specs.RationalFunctions.{polynomial_ring}
use Rattle.theory_lattices.specs.RationalFunctions.{Rational, of_polynomial, power_of_x}

-- a polynomial, or infinity
pub data PlaceOf (D : Type 0) : Type 0 where
  Finite : (poly : D) → PlaceOf D
  Infinite : PlaceOf D

module _ {k : Type 0} (F : FieldOn k) where
  -- the same as some u/v where m does not divide v
  abbrev pub IsIntegralOff : Poly F.cring → Rational F → Type 0
  IsIntegralOff m x = (u : Poly F.cring) × (v : Poly F.cring)
      × IsValue (polynomial_ring F) (IsLowest F.cring (polynomial_ring F)) x u v
      × (Divides (polynomial_ring F) m v → ⊥)

  -- u/v in lowest terms, where u is 0 or deg u ≤ deg v
  abbrev pub IsIntegralAtInfinity : Rational F → Type 0
  IsIntegralAtInfinity x = let P = polynomial_ring F in (x.0.0 ≡ P.zero) ⊎ (degree x.0.0.0 ≤ degree x.0.1.0)

  -- integral at a polynomial, or at infinity
  abbrev pub IsIntegralAt : PlaceOf (Poly F.cring) → Rational F → Type 0
  IsIntegralAt (Finite m) x = IsIntegralOff m x
  IsIntegralAt Infinite x = IsIntegralAtInfinity x

  -- the polynomial of a place is monic and irreducible
  abbrev pub IsPlace : PlaceOf (Poly F.cring) → Type 0
  IsPlace (Finite m) = IsMonic F.cring m × IsIrreducible F.cring (polynomial_ring F) m
  IsPlace Infinite = Unit {0}

  -- the polynomial of a place, or 1/x
  abbrev pub uniformizer_at : FieldOn (Rational F) → PlaceOf (Poly F.cring) → Rational F
  uniformizer_at Q (Finite m) = of_polynomial F m
  uniformizer_at Q Infinite = Q.inv (power_of_x F 1)

  -- what is integral at the place is a discrete valuation ring with this uniformizer, which is no unit
  pub record PlaceValuation (Q : FieldOn (Rational F)) (place : PlaceOf (Poly F.cring)) : Type 0 where
    pub valuation : ValuationOn Q
    pub tells : (x : Rational F) → IsTrue (valuation.integral x) ↔ IsIntegralAt place x
    pub uniformizer : UniformizerOn Q valuation (uniformizer_at Q place) (Q.inv (uniformizer_at Q place))
    pub not_unit : IsIntegral Q valuation (Q.inv (uniformizer_at Q place)) → ⊥
