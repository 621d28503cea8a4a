-- Sums and products of fractions as equations of polynomials.
use Rattle.std.specs.Prelude.{◌≡◌, ℕ, List, [], ◌∷◌, length}
use Rattle.std.proofs.Common.{◌∙◌, ap, arith}
use Rattle.theory_rings.specs.Ring.{FieldOn, CommRingOn}
use Rattle.theory_rings.specs.Ops.{Ops, FieldLaws}
use Rattle.theory_rings.specs.Elements.{Elem, elements}
use Rattle.theory_rings.specs.Sum.{at}
use Rattle.theory_rings.specs.Polynomial.{Poly, convolution_of, degree}
use Rattle.theory_rings.proofs.Polynomials.Bezout.{field_polynomials}
use Rattle.theory_fractions.specs.PolynomialLists.{IsOver}
use Rattle.theory_fractions.proofs.Lifting.{HasCoefficients}
use Rattle.theory_fractions.proofs.Lifting.{eq_of_coefficients, coefficients_of_eq, has-add, has-mul}
use Rattle.theory_fractions.specs.Fraction.{Pair, IsSame, IsLowestTerms, IsFractionSum, IsFractionProduct}
use Rattle.theory_fractions.specs.Fraction.{IsFractionNegative}
use Rattle.theory_fractions.specs.FractionOps.{polynomial_of}
use Rattle.theory_fractions.proofs.FractionField.{polynomial_of-one}
use Rattle.theory_fractions.proofs.ListPolynomials.{has_polynomial_of, has_neg}

module _ {E : Type 0} (o : Ops E) (L : FieldLaws o) where
  abbrev F : FieldOn (Elem o)
  F = elements o L

  abbrev P : CommRingOn (Poly F.cring)
  P = field_polynomials F

  abbrev Has : Poly F.cring → (ℕ → E) → Type 0
  Has = HasCoefficients o L

  -- both are over the field
  pub record IsPairOver (w : Pair E) : Type 0 where
    pub numerator : IsOver o w.0
    pub denominator : IsOver o w.1

  pub pair_over : (w : Pair E) → IsLowestTerms o w.0 w.1 → IsPairOver w
  pair_over w h = record { numerator = h.numerator_over; denominator = h.denominator_over }

  abbrev pub num : Pair E → Poly F.cring
  num w = polynomial_of o L w.0

  abbrev pub den : Pair E → Poly F.cring
  den w = polynomial_of o L w.1

  has_num : (w : Pair E) → IsPairOver w → Has (num w) (at o w.0)
  has_num w h = has_polynomial_of o L w.0 h.numerator

  has_den : (w : Pair E) → IsPairOver w → Has (den w) (at o w.1)
  has_den w h = has_polynomial_of o L w.1 h.denominator

  -- a fraction f / g with the coefficients of p and q
  same_of_eq : (c : Pair E) → IsPairOver c → (p q : Poly F.cring) (f g : ℕ → E) → Has p f → Has q g
      → P.◌⊗◌ (num c) q ≡ P.◌⊗◌ p (den c) → IsSame o (at o c.0) (at o c.1) f g
  same_of_eq c h p q f g hf hg e = record {
    products = coefficients_of_eq o L (P.◌⊗◌ (num c) q) (P.◌⊗◌ p (den c)) (convolution_of o (at o c.0) g)
        (convolution_of o f (at o c.1))
        (has-mul o L (num c) q (at o c.0) g (has_num c h) hg) (has-mul o L p (den c) f (at o c.1) hf (has_den c h)) e;
  }

  eq_of_same : (c : Pair E) → IsPairOver c → (p q : Poly F.cring) (f g : ℕ → E) → Has p f → Has q g
      → IsSame o (at o c.0) (at o c.1) f g → P.◌⊗◌ (num c) q ≡ P.◌⊗◌ p (den c)
  eq_of_same c h p q f g hf hg s =
      eq_of_coefficients o L (P.◌⊗◌ (num c) q) (P.◌⊗◌ p (den c)) (convolution_of o (at o c.0) g)
      (convolution_of o f (at o c.1))
      (has-mul o L (num c) q (at o c.0) g (has_num c h) hg)
      (has-mul o L p (den c) f (at o c.1) hf (has_den c h)) s.products

  module _ (a b c : Pair E) (ha : IsPairOver a) (hb : IsPairOver b) (hc : IsPairOver c) where
    abbrev pub dens : Poly F.cring
    dens = P.◌⊗◌ (den a) (den b)

    abbrev pub sum_num : Poly F.cring
    sum_num = P.◌⊕◌ (P.◌⊗◌ (num a) (den b)) (P.◌⊗◌ (num b) (den a))

    abbrev sum_coefficients : ℕ → E
    sum_coefficients k = o.add (convolution_of o (at o a.0) (at o b.1) k) (convolution_of o (at o b.0) (at o a.1) k)

    has_dens : Has dens (convolution_of o (at o a.1) (at o b.1))
    has_dens = has-mul o L (den a) (den b) (at o a.1) (at o b.1) (has_den a ha) (has_den b hb)

    has_sum : Has sum_num sum_coefficients
    has_sum =
        has-add o L (P.◌⊗◌ (num a) (den b)) (P.◌⊗◌ (num b) (den a)) (convolution_of o (at o a.0) (at o b.1))
        (convolution_of o (at o b.0) (at o a.1))
        (has-mul o L (num a) (den b) (at o a.0) (at o b.1) (has_num a ha) (has_den b hb))
        (has-mul o L (num b) (den a) (at o b.0) (at o a.1) (has_num b hb) (has_den a ha))

    has_product : Has (P.◌⊗◌ (num a) (num b)) (convolution_of o (at o a.0) (at o b.0))
    has_product = has-mul o L (num a) (num b) (at o a.0) (at o b.0) (has_num a ha) (has_num b hb)

    pub sum_of_eq : P.◌⊗◌ (num c) dens ≡ P.◌⊗◌ sum_num (den c) → IsFractionSum o a b c
    sum_of_eq e = same_of_eq c hc sum_num dens sum_coefficients
        (convolution_of o (at o a.1) (at o b.1)) has_sum has_dens e

    pub eq_of_sum : IsFractionSum o a b c → P.◌⊗◌ (num c) dens ≡ P.◌⊗◌ sum_num (den c)
    eq_of_sum s = eq_of_same c hc sum_num dens sum_coefficients
        (convolution_of o (at o a.1) (at o b.1)) has_sum has_dens s

    pub product_of_eq : P.◌⊗◌ (num c) dens ≡ P.◌⊗◌ (P.◌⊗◌ (num a) (num b)) (den c) → IsFractionProduct o a b c
    product_of_eq e =
        same_of_eq c hc (P.◌⊗◌ (num a) (num b)) dens (convolution_of o (at o a.0) (at o b.0))
        (convolution_of o (at o a.1) (at o b.1)) has_product has_dens e

    pub eq_of_product : IsFractionProduct o a b c → P.◌⊗◌ (num c) dens ≡ P.◌⊗◌ (P.◌⊗◌ (num a) (num b)) (den c)
    eq_of_product s =
        eq_of_same c hc (P.◌⊗◌ (num a) (num b)) dens (convolution_of o (at o a.0) (at o b.0))
        (convolution_of o (at o a.1) (at o b.1)) has_product has_dens s

  pub negative_of_eq : (a c : Pair E) → IsPairOver a → IsPairOver c
      → P.◌⊗◌ (num c) (den a) ≡ P.◌⊗◌ (P.neg (num a)) (den c) → IsFractionNegative o a c
  negative_of_eq a c ha hc e =
      same_of_eq c hc (P.neg (num a)) (den a) (λ k. o.neg (at o a.0 k)) (at o a.1)
      (has_neg o L (num a) (at o a.0) (has_num a ha)) (has_den a ha) e

  -- a monic denominator with one coefficient is 1
  pub one_of_constant : (v : List E) → length v ≡ 1 → at o v (degree v) ≡ o.one → v ≡ o.one ∷ []
  one_of_constant [] l e = absurd (omega arith)
  one_of_constant (x ∷ []) l e = ap (λ y. y ∷ []) e
  one_of_constant (x ∷ y ∷ ys) l e = absurd (omega arith)

  pub den_one : (w : Pair E) → IsLowestTerms o w.0 w.1 → length w.1 ≡ 1 → den w ≡ P.one
  den_one w h l = ap (polynomial_of o L) (one_of_constant w.1 l h.monic) ∙ polynomial_of-one o L
