-- Statements on the places of a field of rational functions.
use Rattle.std.specs.Prelude.{◌≡◌, ℕ, ◌↔◌, pos, ◌-ℤ◌}
use Rattle.theory_rings.specs.Ring.{FieldOn}
use Rattle.theory_rings.specs.Power.{power}
use Rattle.theory_rings.specs.Polynomial.{Poly, coefficient, degree}
use Rattle.theory_rings.specs.Division.{Divides, Congruent}
use Rattle.theory_rings.specs.Homomorphism.{IsRingHom}
use Rattle.theory_rings.specs.Remainder.{Remainder, IsRemainderRing}
use Rattle.theory_rings.specs.Fraction.{IsLowest, IsValue}
use Rattle.theory_orders.specs.Uniformizer.{IsIntegral}
use Rattle.theory_lattices.specs.RationalFunctions.{polynomial_ring, x_polynomial}
use Rattle.theory_lattices.specs.RationalFunctions.{Rational, IsPolynomial, of_polynomial, of_constant, power_of_x}
use Rattle.theory_places.specs.Places.{PlaceOf, Finite, Infinite, IsIntegralAt, IsPlace, PlaceValuation}
use Rattle.theory_places.specs.Valuations.{HasValuation}
use Rattle.theory_residue.specs.Residue.{ResidueOn}

module _ {k : Type 0} (F : FieldOn k) (Q : FieldOn (Rational F)) where
  -- each place has its valuation ring
  abbrev pub PlacesAreValuationRings : Type 0
  PlacesAreValuationRings = (place : PlaceOf (Poly F.cring)) → IsPlace F place → PlaceValuation F Q place

  -- where x is (m^s · u) / (m^t · v), and m divides neither u nor v, the valuation of x at m is s − t
  abbrev pub ValuationsByFactors : Type 0
  ValuationsByFactors = (m : Poly F.cring) → IsPlace F (Finite m) → (V : PlaceValuation F Q (Finite m))
      → (x : Rational F) (s t : ℕ) (u v : Poly F.cring)
      → (Divides (polynomial_ring F) m u → ⊥) → (Divides (polynomial_ring F) m v → ⊥)
      → (let P = polynomial_ring F in
      IsValue P (IsLowest F.cring P) x (P.◌⊗◌ (power P.ring m s) u) (P.◌⊗◌ (power P.ring m t) v))
      → HasValuation Q V.valuation (of_polynomial F m) (pos s -ℤ pos t) x

  -- the valuation at infinity is the degree of the denominator less that of the numerator
  abbrev pub ValuationsByDegrees : Type 0
  ValuationsByDegrees = (V : PlaceValuation F Q Infinite) → (x : Rational F) → (x ≡ Q.zero → ⊥)
      → HasValuation Q V.valuation (Q.inv (power_of_x F 1)) (pos (degree x.0.1.0) -ℤ pos (degree x.0.0.0)) x

  -- the polynomials are the fractions with denominator 1, and those that are integral at each polynomial of a place
  pub record PolynomialsAmongFractions : Type 0 where
    pub denominator_one : (x : Rational F) → IsPolynomial F x ↔ (x.0.1 ≡ (let P = polynomial_ring F in P.one))
    pub integral_at_finite : (x : Rational F) → IsPolynomial F x
        ↔ ((m : Poly F.cring) → IsPlace F (Finite m) → IsIntegralAt F (Finite m) x)

  -- the residue field of a polynomial is that of its remainders, and a polynomial goes to its remainder
  pub record ResiduesByRemainders (m : Poly F.cring) (V : PlaceValuation F Q (Finite m))
      (E : FieldOn (Remainder F.cring m))
      : Type 0 where
    pub residue : ResidueOn Q V.valuation (Q.inv (of_polynomial F m)) E
    pub values : (u : Poly F.cring) → Congruent (polynomial_ring F) m (residue.res (of_polynomial F u)).0 u

  abbrev pub FiniteResidueFields : Type 0
  FiniteResidueFields = (m : Poly F.cring) → IsPlace F (Finite m) → (V : PlaceValuation F Q (Finite m))
      → (E : FieldOn (Remainder F.cring m)) → IsRemainderRing F.cring m (polynomial_ring F) E.cring
      → ResiduesByRemainders m V E

  -- that of infinity is the field of constants: u/v in lowest terms, where u has no greater degree than the monic v,
  -- goes to the coefficient of u at the degree of v
  pub record InfiniteResidueField (V : PlaceValuation F Q Infinite) : Type 0 where
    pub residue : ResidueOn Q V.valuation (Q.inv (Q.inv (power_of_x F 1))) F
    pub values : (x : Rational F) → IsIntegral Q V.valuation x
        → residue.res x ≡ coefficient F.cring x.0.0 (degree x.0.1.0)
    pub constants : (c : k) → residue.res (of_constant F c) ≡ c

  -- an automorphism that keeps constants, takes x to 1/x, and carries the place x to infinity and infinity to x
  pub record IsSwap (swap : Rational F → Rational F) : Type 0 where
    pub hom : IsRingHom Q.ring Q.ring swap
    pub twice : (a : Rational F) → swap (swap a) ≡ a
    pub constants : (c : k) → swap (of_constant F c) ≡ of_constant F c
    pub variable : swap (power_of_x F 1) ≡ Q.inv (power_of_x F 1)
    pub to_infinity : (a : Rational F) → IsIntegralAt F (Finite (x_polynomial F)) a ↔ IsIntegralAt F Infinite (swap a)
    pub from_infinity : (a : Rational F) → IsIntegralAt F Infinite a ↔ IsIntegralAt F (Finite (x_polynomial F)) (swap a)

  -- there is one, and x is a place
  pub record HasSwap : Type 0 where
    pub place : IsPlace F (Finite (x_polynomial F))
    pub swap : Rational F → Rational F
    pub is_swap : IsSwap swap
