-- The polynomials are what is integral at all finite places of the rational functions, and a polynomial is a unit at
-- each place whose polynomial does not divide it.
use Rattle.std.specs.Prelude.{◌≡◌}
use Rattle.std.proofs.Common.{sym, ◌∙◌}
use Rattle.theory_rings.specs.Ring.{CommRingOn, FieldOn}
use Rattle.theory_rings.specs.Polynomial.{Poly}
use Rattle.theory_rings.specs.Division.{Divides}
use Rattle.theory_rings.specs.Fraction.{IsFractionField, IsLowest}
use Rattle.theory_rings.proofs.Rings.RingLaws.{zero-mul}
use Rattle.theory_rings.proofs.Polynomials.Bezout.{field_polynomials}
use Rattle.theory_rings.proofs.Fractions.Fractions.{fraction_of_value}
use Rattle.theory_rings.proofs.Fractions.Lowest.{polynomial_reduction}
use Rattle.theory_orders.specs.Uniformizer.{IsUnit}
use Rattle.theory_lattices.specs.RationalFunctions.{Rational, IsPolynomial, of_polynomial}
use Rattle.theory_lattices.proofs.Degree.FractionDegrees.{of-ne-zero}
use Rattle.theory_places.specs.PlaceLaws.{PolynomialsAmongFractions}
use Rattle.theory_places.proofs.Rationals.{inv_value}
use Rattle.theory_places.proofs.PlaceResidues.{polynomials}
use Rattle.theory_pairs.specs.Subring.{IsIntersection}
use Rattle.theory_pairs.specs.PolynomialPlaces.{FinitePlace, FiniteValuations, valuation_at}

module _ {k : Type 0} (F : FieldOn k) (Q : FieldOn (Rational F))
    (H : IsFractionField (field_polynomials F) (IsLowest F.cring (field_polynomials F)) Q)
    (V : FiniteValuations F Q) where
  abbrev P : CommRingOn (Poly F.cring)
  P = field_polynomials F

  pub polynomials_are_intersection : IsIntersection Q (IsPolynomial F) (valuation_at F Q V)
  polynomials_are_intersection x =
      let R : PolynomialsAmongFractions F Q = polynomials F Q H in
      let t = R.integral_at_finite x in (
        λ h π. let v = V π.0 π.1 in (v.tells x).1 (t.0 h π.0 π.1),
        λ h. t.1 (λ m p. let v = V m p in (v.tells x).0 (h (m, p))),
      )

  pub units_off_divisors : (π : FinitePlace F) (u : Poly F.cring) → (Divides P π.0 u → ⊥)
      → IsUnit Q (valuation_at F Q V π) (of_polynomial F u)
  units_off_divisors π u off =
      let nonzero : u ≡ P.zero → ⊥ = λ e. off (P.zero, e ∙ sym (zero-mul P.ring π.0)) in
      let n = of-ne-zero P (IsLowest F.cring P) (polynomial_reduction F) Q H u nonzero in
      let v = V π.0 π.1 in
      let value = inv_value F Q H (of_polynomial F u) u P.one
      (fraction_of_value P (IsLowest F.cring P) (polynomial_reduction F) u) n in
      (n, (v.tells (Q.inv (of_polynomial F u))).1 (P.one, u, value, off))
