-- Lowest terms of fractions of polynomials over a field, with a monic denominator: they exist and are unique, so these
-- fractions are a field.
use Rattle.std.specs.Prelude.{◌≡◌, ◌≢◌, [], ◌∷◌}
use Rattle.std.proofs.Common.{refl, sym, ◌∙◌, ap, ap₂, arith}
use Rattle.std.proofs.Math.Bridge.{le_prop}
use Rattle.std.proofs.Math.Nat.{ℕ_set}
use Rattle.theory_rings.specs.Ring.{FieldOn, CommRingOn}
use Rattle.theory_rings.specs.Polynomial.{Poly, coefficient, lead, degree, IsMonic}
use Rattle.theory_rings.specs.Division.{Divides, IsGcd}
use Rattle.theory_rings.specs.Fraction.{SameFraction, Fraction, IsLowest, IsFractionField}
use Rattle.theory_rings.proofs.Rings.RingLaws.{left_ne_zero_of_mul, right_ne_zero_of_mul}
use Rattle.theory_rings.proofs.Rings.Solver.{◌⊞◌, ◌⊠◌, v0, v1, v2, v3, v4, var, ring4, ring5, by_sorted}
use Rattle.theory_rings.proofs.Polynomials.PolynomialRing.{constant, is_zero_poly, zero_poly_test}
use Rattle.theory_rings.proofs.Polynomials.Degrees.{length_pos, ne_zero_of_length, lead-ne-zero, lead-constant}
use Rattle.theory_rings.proofs.Polynomials.Degrees.{eq_constant}
use Rattle.theory_rings.proofs.Polynomials.Constants.{constant-one}
use Rattle.theory_rings.proofs.Rings.Fields.{field_set}
use Rattle.theory_rings.proofs.Polynomials.Bezout.{field_polynomials, field_degree-mul, field_lead-mul}
use Rattle.theory_rings.proofs.Polynomials.Bezout.{poly_mul-ne-zero, poly_mul_cancel_left, poly_one-ne-zero}
use Rattle.theory_rings.proofs.Polynomials.Bezout.{constant_inverse, gcd, coprime_comm, coprime_of_bezout}
use Rattle.theory_rings.proofs.Polynomials.Bezout.{divides_of_coprime}
use Rattle.theory_rings.proofs.Fractions.Fractions.{IsReduction, fraction_field, is_fraction_field}

module _ {K : Type 0} (F : FieldOn K) where
  abbrev R : CommRingOn K
  R = F.cring

  abbrev P : CommRingOn (Poly F.cring)
  P = field_polynomials F

  -- numerator and denominator in lowest terms
  abbrev pub Lowest : Poly F.cring → Poly F.cring → Type 0
  Lowest u v = IsLowest F.cring (field_polynomials F) u v

  pub IsMonic-prop : (v : Poly R) → IsProp (IsMonic R v)
  IsMonic-prop v x y = λ i. record {
    nonzero = le_prop x.nonzero y.nonzero i;
    leading = field_set F (lead R v) F.one x.leading y.leading i;
  }

  pub IsLowest-prop : (u v : Poly R) → IsProp (Lowest u v)
  IsLowest-prop u v x y = λ i. record {
    monic = IsMonic-prop v x.monic y.monic i;
    coprime = λ g a b. ℕ_set (degree g.0) 0 (x.coprime g a b) (y.coprime g a b) i;
  }

  pub IsMonic-ne-zero : (v : Poly R) → IsMonic R v → v ≢ P.zero
  IsMonic-ne-zero v h = ne_zero_of_length R F.zero_test v h.nonzero

  -- a constant that makes a polynomial monic
  normalizer : Poly R → Poly R
  normalizer v = constant R F.zero_test (F.inv (lead R v))

  normalizer-inverse : (v : Poly R) → v ≢ P.zero → P.◌⊗◌ (constant R F.zero_test (lead R v)) (normalizer v) ≡ P.one
  unfolding normalizer
  normalizer-inverse v h =
      P.mul_comm (constant R F.zero_test (lead R v)) (normalizer v)
      ∙ constant_inverse F (lead R v) (lead-ne-zero R F.zero_test v h)

  normalizer-ne-zero : (v : Poly R) → v ≢ P.zero → normalizer v ≢ P.zero
  normalizer-ne-zero v h =
      right_ne_zero_of_mul P.ring (constant R F.zero_test (lead R v)) (normalizer v)
      (λ e. poly_one-ne-zero F (sym (normalizer-inverse v h) ∙ e))

  -- it does
  IsMonic-normalizer : (v : Poly R) → v ≢ P.zero → IsMonic R (P.◌⊗◌ (normalizer v) v)
  unfolding normalizer
  IsMonic-normalizer v h = record {
    nonzero = length_pos R F.zero_test (P.◌⊗◌ (normalizer v) v)
        (poly_mul-ne-zero F (normalizer v) v (normalizer-ne-zero v h) h);
    leading = field_lead-mul F (normalizer v) v (normalizer-ne-zero v h) h
        ∙ ap (λ x. F.◌⊗◌ x (lead R v)) (lead-constant R F.zero_test (F.inv (lead R v)))
        ∙ F.inv-mul (lead R v) (lead-ne-zero R F.zero_test v h);
  }

  -- each fraction has lowest terms
  pub lowest_terms : (u v : Poly R) → v ≢ P.zero → (w : Poly R × Poly R) × Lowest w.0 w.1 × SameFraction P w.0 w.1 u v
  lowest_terms u v h = go (gcd F u v).0 (gcd F u v).1
    where
      go : (g : Poly R) → IsGcd P u v g → (w : Poly R × Poly R) × Lowest w.0 w.1 × SameFraction P w.0 w.1 u v
      go g e = (
        (P.◌⊗◌ k a, P.◌⊗◌ k b),
        record {
          monic = IsMonic-normalizer b b-ne-zero;
          coprime = coprime_of_bezout F (P.◌⊗◌ k a) (P.◌⊗◌ k b) (P.◌⊗◌ e.s l) (P.◌⊗◌ e.t l) combined;
        },
        ap (P.◌⊗◌ (P.◌⊗◌ k a)) e.right.1 ∙ ring4 P (λ k a b g. (k ⊠ a ⊠ (b ⊠ g), a ⊠ g ⊠ (k ⊠ b))) refl k a b g
            ∙ ap (λ x. P.◌⊗◌ x (P.◌⊗◌ k b)) (sym e.left.1),
      )
        where
          a : Poly R
          a = e.left.0

          b : Poly R
          b = e.right.0

          product-ne-zero : P.◌⊗◌ b g ≢ P.zero
          product-ne-zero z = h (e.right.1 ∙ z)

          b-ne-zero : b ≢ P.zero
          b-ne-zero = left_ne_zero_of_mul P.ring b g product-ne-zero

          k : Poly R
          k = normalizer b

          l : Poly R
          l = constant R F.zero_test (lead R b)

          -- the cofactors are coprime, as g cancels
          cofactors : P.◌⊕◌ (P.◌⊗◌ e.s a) (P.◌⊗◌ e.t b) ≡ P.one
          cofactors =
              poly_mul_cancel_left F g (P.◌⊕◌ (P.◌⊗◌ e.s a) (P.◌⊗◌ e.t b)) P.one
              (right_ne_zero_of_mul P.ring b g product-ne-zero)
              (ring5 P (λ g s a t b. (g ⊠ (s ⊠ a ⊞ t ⊠ b), s ⊠ (a ⊠ g) ⊞ t ⊠ (b ⊠ g))) refl g e.s a e.t b
              ∙ ap₂ (λ x y. P.◌⊕◌ (P.◌⊗◌ e.s x) (P.◌⊗◌ e.t y)) (sym e.left.1) (sym e.right.1)
              ∙ sym e.combined ∙ sym (P.mul-one g))

          combined : P.◌⊕◌ (P.◌⊗◌ (P.◌⊗◌ e.s l) (P.◌⊗◌ k a)) (P.◌⊗◌ (P.◌⊗◌ e.t l) (P.◌⊗◌ k b)) ≡ P.one
          combined =
              by_sorted P (e.s ∷ l ∷ k ∷ a ∷ e.t ∷ b ∷ [])
              (v0 ⊠ v1 ⊠ (v2 ⊠ v3) ⊞ v4 ⊠ v1 ⊠ (v2 ⊠ var 5)) (v1 ⊠ v2 ⊠ (v0 ⊠ v3 ⊞ v4 ⊠ var 5)) refl
              ∙ ap₂ P.◌⊗◌ (normalizer-inverse b b-ne-zero) cofactors ∙ P.one-mul P.one

  -- monic polynomials that divide each other are one
  pub monic_eq_of_divides : (v w : Poly R) → IsMonic R v → IsMonic R w → Divides P v w → Divides P w v → v ≡ w
  monic_eq_of_divides v w hv hw d d' = sym (d.1 ∙ ap (λ x. P.◌⊗◌ x v) unit ∙ P.one-mul v)
    where
      v-ne-zero : v ≢ P.zero
      v-ne-zero = IsMonic-ne-zero v hv

      w-ne-zero : w ≢ P.zero
      w-ne-zero = IsMonic-ne-zero w hw

      c : Poly R
      c = d.0

      c-ne-zero : c ≢ P.zero
      c-ne-zero = left_ne_zero_of_mul P.ring c v (λ e. w-ne-zero (d.1 ∙ e))

      flat : degree c.0 ≡ 0
      flat = omega (
        arith,
        ap (λ x. degree x.0) d.1,
        ap (λ x. degree x.0) d'.1,
        field_degree-mul F c v c-ne-zero v-ne-zero,
        field_degree-mul F d'.0 w (left_ne_zero_of_mul P.ring d'.0 w (λ e. v-ne-zero (d'.1 ∙ e))) w-ne-zero,
      )

      lead_one : lead R c ≡ F.one
      lead_one =
          sym (F.mul-one (lead R c)) ∙ ap (F.◌⊗◌ (lead R c)) (sym hv.leading)
          ∙ sym (field_lead-mul F c v c-ne-zero v-ne-zero)
          ∙ ap (lead R) (sym d.1) ∙ hw.leading

      unit : c ≡ P.one
      unit =
          eq_constant R F.zero_test c flat
          ∙ ap (constant R F.zero_test) (ap (coefficient R c) (sym flat) ∙ lead_one) ∙ constant-one R F.zero_test

  -- lowest terms are unique
  pub lowest_terms_unique : (u v u' v' : Poly R) → Lowest u v → Lowest u' v' → SameFraction P u v u' v' → (u ≡ u')
      × (v ≡ v')
  lowest_terms_unique u v u' v' h h' e = (numerators, denominators)
    where
      divides : Divides P v v'
      divides = divides_of_coprime F v u v' (coprime_comm F u v h.coprime) (u', e)

      divides' : Divides P v' v
      divides' = divides_of_coprime F v' u' v (coprime_comm F u' v' h'.coprime) (u, sym e)

      denominators : v ≡ v'
      denominators = monic_eq_of_divides v v' h.monic h'.monic divides divides'

      numerators : u ≡ u'
      numerators =
          poly_mul_cancel_left F v u u' (IsMonic-ne-zero v h.monic)
          (P.mul_comm v u ∙ ap (P.◌⊗◌ u) denominators ∙ e ∙ P.mul_comm u' v)

  pub polynomial_reduction : IsReduction P Lowest
  polynomial_reduction = record {
    one-nonzero = poly_one-ne-zero F;
    mul_cancel_left = poly_mul_cancel_left F;
    lowest_prop = IsLowest-prop;
    lowest-ne-zero = λ u v h. IsMonic-ne-zero v h.monic;
    reduced = lowest_terms;
    unique = lowest_terms_unique;
  }

  -- the field of rational functions over F
  pub rational_functions : FieldOn (Fraction Lowest)
  rational_functions = fraction_field P Lowest polynomial_reduction (is_zero_poly R F.zero_test)
      (zero_poly_test R F.zero_test)

  pub is_rational_functions : IsFractionField P Lowest rational_functions
  unfolding rational_functions
  is_rational_functions =
      is_fraction_field P Lowest polynomial_reduction (is_zero_poly R F.zero_test) (zero_poly_test R F.zero_test)
