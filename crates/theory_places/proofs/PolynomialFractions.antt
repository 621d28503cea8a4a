-- The polynomials among the fractions: those with denominator 1, and those that are integral at each finite place.
use Rattle.std.specs.Prelude.{◌≡◌, ◌≢◌, ℕ, zero, suc, ◌<◌, ◌≤◌}
use Rattle.std.proofs.Common.{sym, ◌∙◌, ap, arith, ⊎_elim}
use Rattle.std.proofs.lemmas.Bool.{cases_lt}
use Rattle.theory_rings.specs.Ring.{FieldOn, CommRingOn}
use Rattle.theory_rings.specs.Polynomial.{Poly, IsMonic, coefficient, lead, degree}
use Rattle.theory_rings.specs.Division.{Divides, IsIrreducible}
use Rattle.theory_rings.specs.Fraction.{IsLowest, IsValue, SameFraction}
use Rattle.theory_rings.proofs.Rings.RingLaws.{left_ne_zero_of_mul, right_ne_zero_of_mul}
use Rattle.theory_rings.proofs.Polynomials.PolynomialRing.{constant}
use Rattle.theory_rings.proofs.Polynomials.Constants.{constant-one}
use Rattle.theory_rings.proofs.Polynomials.Degrees.{eq_constant}
use Rattle.theory_rings.proofs.Polynomials.Bezout.{field_polynomials, field_degree-mul, degree_of_divides_one}
use Rattle.theory_rings.proofs.Polynomials.Bezout.{degree_zero_inverse}
use Rattle.theory_rings.proofs.Polynomials.Bezout.{divides_of_coprime, coprime_comm}
use Rattle.theory_rings.proofs.Fractions.Lowest.{IsMonic-ne-zero, lowest_terms}
use Rattle.theory_lattices.specs.RationalFunctions.{Rational, IsPolynomial}
use Rattle.theory_places.specs.Places.{IsIntegralOff}

module _ {k : Type 0} (F : FieldOn k) where
  infixl 70 ◌⊗◌
  abbrev P : CommRingOn (Poly F.cring)
  P = field_polynomials F

  open P use {◌⊗◌}

  abbrev D : Type 0
  D = Poly F.cring

  -- no monic irreducible polynomial divides v
  abbrev Free : D → Type 0
  Free v = (m : D) → IsMonic F.cring m → IsIrreducible F.cring P m → Divides P m v → ⊥

  free_divisor : (a v : D) → Divides P a v → Free v → Free a
  free_divisor a v d f m h i e = f m h i (d.0 ⊗ e.0, d.1 ∙ ap (λ t. d.0 ⊗ t) e.1 ∙ sym (P.mul_assoc d.0 e.0 m))

  -- a monic multiple of a by a constant, which divides what a divides
  normal : (a : D) → a ≢ P.zero → (w : D) × IsMonic F.cring w × (degree w.0 ≡ degree a.0) × Divides P w a
  normal a h = (w.0.1, w.1.monic, flat, d)
    where
      w : (w : D × D) × IsLowest F.cring P w.0 w.1 × SameFraction P w.0 w.1 P.one a
      w = lowest_terms F P.one a h

      e : w.0.1 ≡ w.0.0 ⊗ a
      e = sym (w.2 ∙ P.one-mul w.0.1)

      ne : w.0.0 ⊗ a ≢ P.zero
      ne z = IsMonic-ne-zero F w.0.1 w.1.monic (e ∙ z)

      c_ne : w.0.0 ≢ P.zero
      c_ne = left_ne_zero_of_mul P.ring w.0.0 a ne

      unit : degree w.0.0.0 ≡ 0
      unit = w.1.coprime w.0.0 (P.one, sym (P.one-mul w.0.0)) (a, e ∙ P.mul_comm w.0.0 a)

      flat : degree w.0.1.0 ≡ degree a.0
      flat = let f = ap (λ (t : D). degree t.0) e in let g = field_degree-mul F w.0.0 a c_ne h in omega (arith, unit)

      i : D
      i = constant F.cring F.zero_test (F.inv (lead F.cring w.0.0))

      d : Divides P w.0.1 a
      d = (
        i,
        sym (ap (λ t. i ⊗ t) e ∙ sym (P.mul_assoc i w.0.0 a)
            ∙ ap (λ t. t ⊗ a) (degree_zero_inverse F w.0.0 c_ne unit) ∙ P.one-mul a),
      )

  -- a monic polynomial, of whose smaller divisors none of degree 1 or more is free of polynomials of places
  irreducible_of_free : (n : ℕ) (w : D) → IsMonic F.cring w → 0 < degree w.0 → degree w.0 ≤ suc n → Free w
      → ((a : D) → degree a.0 ≤ n → a ≢ P.zero → Free a → degree a.0 ≡ 0) → IsIrreducible F.cring P w
  irreducible_of_free n w h g l f small = record {
    positive = omega arith;
    no_factors = λ a b la lb e.
        let ne : a ⊗ b ≢ P.zero = λ z. IsMonic-ne-zero F w h (e ∙ z) in
        let ha = left_ne_zero_of_mul P.ring a b ne in
        let hb = right_ne_zero_of_mul P.ring a b ne in
        let da : Divides P a w = (b, e ∙ P.mul_comm a b) in
        let za : degree a.0 ≡ 0 = small a (omega arith) ha (free_divisor a w da f) in
        let sum = field_degree-mul F a b ha hb in
        let same = ap (λ (t : D). degree t.0) e in
        omega arith;
  }

  -- a polynomial that no polynomial of a place divides is a constant
  flat_of_free : (n : ℕ) (v : D) → degree v.0 ≤ n → v ≢ P.zero → Free v → degree v.0 ≡ 0
  flat_of_free zero v l h f = omega arith
  flat_of_free (suc n) v l h f =
      let w = normal v h in
      let e = w.2 in
      let fw : Free w.0 = free_divisor w.0 v w.3 f in
      ⊎_elim
      (λ (g : 0 < degree v.0). absurd
      (f w.0 w.1 (irreducible_of_free n w.0 w.1 (omega arith) (omega arith) fw (flat_of_free n)) w.3))
      (λ (g : degree v.0 ≤ 0). omega arith)
      (cases_lt 0 (degree v.0))

  abbrev Is : Rational F → D → D → Type 0
  Is = IsValue P (IsLowest F.cring P)

  -- a monic constant is 1
  monic_one : (v : D) → IsMonic F.cring v → degree v.0 ≡ 0 → v ≡ P.one
  monic_one v h e = eq_constant F.cring F.zero_test v e
      ∙ ap (constant F.cring F.zero_test) (ap (coefficient F.cring v) (sym e) ∙ h.leading)
      ∙ constant-one F.cring F.zero_test

  pub polynomial_of_denominator : (x : Rational F) → x.0.1 ≡ P.one → IsPolynomial F x
  polynomial_of_denominator x e = (x.0.0, ap (λ t. x.0.0 ⊗ t) (sym e))

  pub denominator_of_polynomial : (x : Rational F) → IsPolynomial F x → x.0.1 ≡ P.one
  denominator_of_polynomial x p =
      let c : Divides P x.0.1 P.one =
      divides_of_coprime F x.0.1 x.0.0 P.one (coprime_comm F x.0.0 x.0.1 x.1.coprime) (p.0, p.1) in
      monic_one x.0.1 x.1.monic (degree_of_divides_one F x.0.1 c)

  -- integral at each polynomial of a place
  abbrev Everywhere : Rational F → Type 0
  Everywhere x = (m : D) → IsMonic F.cring m → IsIrreducible F.cring P m → IsIntegralOff F m x

  pub polynomial_of_everywhere : (x : Rational F) → Everywhere x → IsPolynomial F x
  polynomial_of_everywhere x h = polynomial_of_denominator x (monic_one x.0.1 x.1.monic
      (flat_of_free (degree x.0.1.0) x.0.1 (omega arith) (IsMonic-ne-zero F x.0.1 x.1.monic) free))
    where
      free : Free x.0.1
      free m p i d =
          let w = h m p i in
          let c : Divides P x.0.1 w.1 =
          divides_of_coprime F x.0.1 x.0.0 w.1 (coprime_comm F x.0.0 x.0.1 x.1.coprime) (w.0, w.2) in
          w.3 (c.0 ⊗ d.0, c.1 ∙ ap (λ t. c.0 ⊗ t) d.1 ∙ sym (P.mul_assoc c.0 d.0 m))

  pub everywhere_of_polynomial : (x : Rational F) → IsPolynomial F x → Everywhere x
  everywhere_of_polynomial x p m h i = (
    p.0,
    P.one,
    p.1,
    λ d.
        let e = degree_of_divides_one F m d in let l = i.positive in omega arith,
  )
