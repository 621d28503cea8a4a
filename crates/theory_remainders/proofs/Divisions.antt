-- Divisions of lists of coefficients as congruences of polynomials, and powers.
use Rattle.std.specs.Prelude.{◌≡◌, ℕ, zero, suc, ◌<◌, List, [], ◌∷◌, length}
use Rattle.std.proofs.Common.{refl, sym, ◌∙◌, ap}
use Rattle.std.proofs.lemmas.List.Elements.{All-nil, All-cons}
use Rattle.theory_rings.specs.Ring.{FieldOn, CommRingOn}
use Rattle.theory_rings.specs.Ops.{Ops, IsElem, FieldLaws}
use Rattle.theory_rings.specs.Elements.{Elem, elements}
use Rattle.theory_rings.specs.Sum.{at}
use Rattle.theory_rings.specs.Power.{power, power_by_ops}
use Rattle.theory_rings.specs.Polynomial.{Poly, convolution_of, constant_coefficients}
use Rattle.theory_rings.specs.Division.{Congruent}
use Rattle.theory_rings.proofs.Rings.Congruences.{congruent_of_eq}
use Rattle.theory_rings.proofs.Rings.Homomorphisms.{map-neg}
use Rattle.theory_rings.proofs.Rings.Solver.{◌⊠◌, minus, unit, ring1}
use Rattle.theory_rings.proofs.Polynomials.PolynomialRing.{constant, coefficient-constant}
use Rattle.theory_rings.proofs.Polynomials.Constants.{constant_hom}
use Rattle.theory_rings.proofs.Polynomials.ElementLists.{values, at-values}
use Rattle.theory_rings.proofs.Polynomials.Bezout.{field_polynomials}
use Rattle.theory_fractions.specs.PolynomialLists.{IsOver, IsProduct, IsSum, IsDivision}
use Rattle.theory_fractions.specs.FractionOps.{polynomial_of}
use Rattle.theory_fractions.proofs.Lifting.{HasCoefficients, values-over, eq_of_coefficients, coefficients_of_eq}
use Rattle.theory_fractions.proofs.Lifting.{has-add, has-mul, has-one}
use Rattle.theory_fractions.proofs.Reducing.{poly-constant_mul}
use Rattle.theory_fractions.proofs.ListPolynomials.{has_polynomial_of, has_neg}
use Rattle.theory_remainders.specs.RemainderLaws.{IsRemainderOf}

module _ {E : Type 0} (o : Ops E) (L : FieldLaws o) where
  abbrev F : FieldOn (Elem o)
  F = elements o L

  abbrev P : CommRingOn (Poly F.cring)
  P = field_polynomials F

  abbrev poly : List E → Poly F.cring
  poly = polynomial_of o L

  pub congruent_of_remainder_of : (p : Poly F.cring) (f : ℕ → E) → HasCoefficients o L p f → (m r : List E)
      → IsOver o m → IsOver o r → IsRemainderOf o f m r → Congruent P (poly m) p (poly r)
  congruent_of_remainder_of p f hf m r hm hr s = (
    poly s.0,
    eq_of_coefficients o L p (P.◌⊕◌ (P.◌⊗◌ (poly s.0) (poly m)) (poly r)) f
        (λ k. o.add (convolution_of o (at o s.0) (at o m) k) (at o r k)) hf
        (has-add o L (P.◌⊗◌ (poly s.0) (poly m)) (poly r) (convolution_of o (at o s.0) (at o m)) (at o r)
        (has-mul o L (poly s.0) (poly m) (at o s.0) (at o m) (has_polynomial_of o L s.0 s.1)
        (has_polynomial_of o L m hm))
        (has_polynomial_of o L r hr))
        s.2.whole
        ∙ P.add_comm (P.◌⊗◌ (poly s.0) (poly m)) (poly r),
  )

  -- and back
  pub remainder_of_congruent : (p : Poly F.cring) (f : ℕ → E) → HasCoefficients o L p f → (m r : List E)
      → IsOver o m → IsOver o r → length r < length m → Congruent P (poly m) p (poly r) → IsRemainderOf o f m r
  remainder_of_congruent p f hf m r hm hr l c = (
    values o L c.0.0,
    values-over o L c.0.0,
    record {
      whole = coefficients_of_eq o L p (P.◌⊕◌ (P.◌⊗◌ c.0 (poly m)) (poly r)) f
          (λ k. o.add (convolution_of o (at o (values o L c.0.0)) (at o m) k) (at o r k)) hf
          (has-add o L (P.◌⊗◌ c.0 (poly m)) (poly r) (convolution_of o (at o (values o L c.0.0)) (at o m)) (at o r)
          (has-mul o L c.0 (poly m) (at o (values o L c.0.0)) (at o m) (at-values o L c.0.0)
          (has_polynomial_of o L m hm))
          (has_polynomial_of o L r hr))
          (c.1 ∙ P.add_comm (poly r) (P.◌⊗◌ c.0 (poly m)));
      smaller = l;
    },
  )

  pub poly-product : (a b c : List E) → IsOver o a → IsOver o b → IsOver o c → IsProduct o a b c
      → poly c ≡ P.◌⊗◌ (poly a) (poly b)
  poly-product a b c ha hb hc e =
      eq_of_coefficients o L (poly c) (P.◌⊗◌ (poly a) (poly b)) (at o c) (convolution_of o (at o a) (at o b))
      (has_polynomial_of o L c hc)
      (has-mul o L (poly a) (poly b) (at o a) (at o b) (has_polynomial_of o L a ha) (has_polynomial_of o L b hb)) e

  pub poly-sum : (a b c : List E) → IsOver o a → IsOver o b → IsOver o c → IsSum o a b c
      → poly c ≡ P.◌⊕◌ (poly a) (poly b)
  poly-sum a b c ha hb hc e =
      eq_of_coefficients o L (poly c) (P.◌⊕◌ (poly a) (poly b)) (at o c) (λ k. o.add (at o a k) (at o b k))
      (has_polynomial_of o L c hc)
      (has-add o L (poly a) (poly b) (at o a) (at o b) (has_polynomial_of o L a ha) (has_polynomial_of o L b hb)) e

  pub poly-division : (a b q r : List E) → IsOver o a → IsOver o b → IsOver o q → IsOver o r → IsDivision o a b q r
      → poly a ≡ P.◌⊕◌ (P.◌⊗◌ (poly q) (poly b)) (poly r)
  poly-division a b q r ha hb hq hr d =
      eq_of_coefficients o L (poly a) (P.◌⊕◌ (P.◌⊗◌ (poly q) (poly b)) (poly r)) (at o a)
      (λ k. o.add (convolution_of o (at o q) (at o b) k) (at o r k)) (has_polynomial_of o L a ha)
      (has-add o L (P.◌⊗◌ (poly q) (poly b)) (poly r) (convolution_of o (at o q) (at o b)) (at o r)
      (has-mul o L (poly q) (poly b) (at o q) (at o b) (has_polynomial_of o L q hq) (has_polynomial_of o L b hb))
      (has_polynomial_of o L r hr))
      d.whole

  -- a list of one item is a constant
  pub poly-constant : (c : E) (hc : IsElem o c) → poly (c ∷ []) ≡ constant F.cring F.zero_test (c, hc)
  poly-constant c hc =
      let p : Poly F.cring = constant F.cring F.zero_test (c, hc) in
      eq_of_coefficients o L (poly (c ∷ [])) p (at o (c ∷ [])) (at o (c ∷ []))
      (has_polynomial_of o L (c ∷ []) (All-cons (IsElem o) c [] hc (All-nil (IsElem o))))
      (λ k. each k ∙ ap (λ (x : Elem o). x.0) (sym (coefficient-constant F.cring F.zero_test (c, hc) k))) (λ k. refl)
    where
      each : (k : ℕ) → at o (c ∷ []) k ≡ (constant_coefficients F.zero (c, hc) k).0
      each zero = refl
      each (suc k) = refl

  -- a product with −1
  pub poly-minus : (a c : List E) → IsOver o a → IsOver o c → IsProduct o (o.neg o.one ∷ []) a c
      → poly c ≡ P.neg (poly a)
  poly-minus a c ha hc e =
      let H = constant_hom F.cring F.zero_test in
      poly-constant_mul o L (o.neg o.one) (L.neg-elem o.one L.one-elem) a c ha hc e
      ∙ ap (λ x. P.◌⊗◌ x (poly a))
      (map-neg F.ring P.ring (constant F.cring F.zero_test) H F.one ∙ ap P.neg H.map-one)
      ∙ ring1-minus
    where
      ring1-minus : P.◌⊗◌ (P.neg P.one) (poly a) ≡ P.neg (poly a)
      ring1-minus = ring1 P (λ a. (minus unit ⊠ a, minus a)) refl (poly a)

  pub minus_coefficients : (a c : List E) → IsOver o a → IsOver o c → IsProduct o (o.neg o.one ∷ []) a c
      → (k : ℕ) → at o c k ≡ o.neg (at o a k)
  minus_coefficients a c ha hc e =
      coefficients_of_eq o L (poly c) (P.neg (poly a)) (at o c) (λ k. o.neg (at o a k)) (has_polynomial_of o L c hc)
      (has_neg o L (poly a) (at o a) (has_polynomial_of o L a ha)) (poly-minus a c ha hc e)

  -- a polynomial of smaller degree is its own remainder
  pub remainder_of_self : (a m : List E) → IsOver o a → IsOver o m → length a < length m → IsRemainderOf o (at o a) m a
  remainder_of_self a m ha hm l =
      remainder_of_congruent (poly a) (at o a) (has_polynomial_of o L a ha) m a hm ha l
      (congruent_of_eq P (poly m) (poly a) (poly a) refl)

  -- the coefficients of the power with exponent n
  abbrev pub power_coefficients : List E → ℕ → ℕ → E
  power_coefficients a n = power_by_ops (constant_coefficients o.zero o.one) (convolution_of o) (at o a) n

  pub has-power : (p : Poly F.cring) (a : List E) (n : ℕ) → HasCoefficients o L p (at o a)
      → HasCoefficients o L (power P.ring p n) (power_coefficients a n)
  has-power p a zero h = has-one o L
  has-power p a (suc n) h =
      has-mul o L p (power P.ring p n) (at o a) (power_coefficients a n) h (has-power p a n h)
