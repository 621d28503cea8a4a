-- Each place has its valuation ring.
use Rattle.std.specs.Prelude.{◌≡◌, ◌≤◌, ◌↔◌, pos, ◌<ℤ◌, ◌-ℤ◌}
use Rattle.std.proofs.Common.{sym, subst, arith, inl, inr, ⊎_elim}
use Rattle.std.proofs.lemmas.Int.{ints}
use Rattle.theory_rings.specs.Ring.{FieldOn, CommRingOn}
use Rattle.theory_rings.specs.Polynomial.{Poly, degree}
use Rattle.theory_rings.specs.Division.{IsIrreducible}
use Rattle.theory_rings.specs.Fraction.{IsFractionField, IsLowest}
use Rattle.theory_rings.proofs.Polynomials.Bezout.{field_polynomials}
use Rattle.theory_spaces.specs.Valuation.{ValuationOn}
use Rattle.theory_orders.specs.Uniformizer.{IsIntegral, UniformizerOn}
use Rattle.theory_lattices.specs.Degree.{DegreeOn, DegreeBelow}
use Rattle.theory_lattices.specs.RationalFunctions.{Rational, power_of_x}
use Rattle.theory_lattices.proofs.Degree.FractionDegrees.{rational_degree, rational_degree-is}
use Rattle.theory_places.specs.Places.{PlaceOf, Finite, Infinite, IsPlace, IsIntegralAtInfinity, PlaceValuation}
use Rattle.theory_places.proofs.Rationals.{inv_inv, zero_num, zero_of_num}
use Rattle.theory_places.proofs.FinitePlaces as finite
use Rattle.theory_places.proofs.DegreePlaces.{degree_valuation, degree_uniformizer, degree_valuation-tells, strict}
use Rattle.theory_places.proofs.Infinity.{x_degree}

module _ {k : Type 0} (F : FieldOn k) (Q : FieldOn (Rational F))
    (H : IsFractionField (field_polynomials F) (IsLowest F.cring (field_polynomials F)) Q) where
  abbrev P : CommRingOn (Poly F.cring)
  P = field_polynomials F

  pub finite_valuation : (m : Poly F.cring) → IsIrreducible F.cring P m → PlaceValuation F Q (Finite m)
  finite_valuation m i = record {
    valuation = finite.place F Q H m i;
    tells = finite.place-tells F Q H m i;
    uniformizer = finite.uniformizer F Q H m i;
    not_unit = finite.strict F Q H m i;
  }

  abbrev W : DegreeOn Q.ring
  W = rational_degree F Q H

  abbrev X : Rational F
  X = power_of_x F 1

  degree-is : (x : Rational F) → W.deg x ≡ pos (degree x.0.0.0) -ℤ pos (degree x.0.1.0)
  degree-is = let D = rational_degree-is F Q H in D.degree-is

  -- 0 or of degree at most 0, as of a numerator and a denominator
  pub at_infinity : (x : Rational F) → DegreeBelow W (pos 1) x ↔ IsIntegralAtInfinity F x
  at_infinity x = (
    ⊎_elim
        (λ (e : x ≡ Q.zero). let z : x.0.0 ≡ P.zero =
        subst (λ (y : Rational F). y.0.0 ≡ P.zero) (sym e) (zero_num F Q H) in inl z)
        (λ (l : W.deg x <ℤ pos 1). let e = degree-is x in inr (omega (arith, ints))),
    ⊎_elim
        (λ (e : x.0.0 ≡ P.zero). inl (zero_of_num F Q H x e))
        (λ (l : degree x.0.0.0 ≤ degree x.0.1.0). let e = degree-is x in inr (omega (arith, ints))),
  )

  pub x_ne : X ≡ Q.zero → ⊥
  x_ne = let h = x_degree F Q H in h.nonzero

  pub infinite_valuation : PlaceValuation F Q Infinite
  infinite_valuation =
      let h = x_degree F Q H in
      let Z : ValuationOn Q = degree_valuation Q W in
      let e : X ≡ Q.inv (Q.inv X) = sym (inv_inv Q X x_ne) in
      record {
        valuation = Z;
        tells = λ x. let a = at_infinity x in let b = degree_valuation-tells Q W x in
            (λ t. a.0 (b.0 t), λ t. b.1 (a.1 t));
        uniformizer = subst (λ (q : Rational F). UniformizerOn Q Z (Q.inv X) q) e (degree_uniformizer Q W X h);
        not_unit = subst (λ (q : Rational F). IsIntegral Q Z q → ⊥) e (strict Q W X h);
      }

  pub place_valuation : (place : PlaceOf (Poly F.cring)) → IsPlace F place → PlaceValuation F Q place
  place_valuation (Finite m) i = finite_valuation m i.1
  place_valuation Infinite i = infinite_valuation
