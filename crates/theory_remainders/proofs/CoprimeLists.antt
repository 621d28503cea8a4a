-- Coprime lists of coefficients: a step of Euclid's algorithm, and its end.
use Rattle.std.specs.Prelude.{◌≡◌, ◌↔◌, List, [], length}
use Rattle.std.proofs.Common.{refl, subst, sym, ◌∙◌, ap, ap₂, arith}
use Rattle.std.proofs.lemmas.List.Elements.{All-nil}
use Rattle.theory_rings.specs.Ring.{FieldOn, CommRingOn}
use Rattle.theory_rings.specs.Ops.{Ops, IsElem, FieldLaws}
use Rattle.theory_rings.specs.Elements.{Elem, elements}
use Rattle.theory_rings.specs.Sum.{at}
use Rattle.theory_rings.specs.Polynomial.{Poly, degree}
use Rattle.theory_rings.specs.Division.{Divides, Congruent, IsCoprime as IsCoprimeIn}
use Rattle.theory_rings.proofs.Rings.RingLaws.{zero-mul}
use Rattle.theory_rings.proofs.Rings.Solver.{◌⊞◌, ◌⊠◌, minus, ring3, ring4}
use Rattle.theory_rings.proofs.Polynomials.Degrees.{length-degree_of_ne_zero}
use Rattle.theory_rings.proofs.Polynomials.Constants.{variable, degree-variable}
use Rattle.theory_rings.proofs.Polynomials.Bezout.{field_polynomials, coprime_comm}
use Rattle.theory_rings.proofs.Polynomials.Monic.{divides_self}
use Rattle.theory_fractions.specs.PolynomialLists.{IsOver, IsDivision, IsPolynomialList}
use Rattle.theory_fractions.specs.Fraction.{IsCoprime}
use Rattle.theory_fractions.specs.FractionOps.{polynomial_of}
use Rattle.theory_fractions.proofs.FractionField.{polynomial_of-nil}
use Rattle.theory_fractions.proofs.LowestTerms.{coprime_lists, coprime_polynomials}
use Rattle.theory_fractions.proofs.ListPolynomials.{has_polynomial_of, length-polynomial_of}
use Rattle.theory_fractions.proofs.Reducing.{coprime_of_constant_left}
use Rattle.theory_remainders.specs.RemainderLaws.{IsRemainderOf}
use Rattle.theory_remainders.proofs.Divisions.{congruent_of_remainder_of}

-- polynomials
module _ {K : Type 0} (F : FieldOn K) where
  abbrev P : CommRingOn (Poly F.cring)
  P = field_polynomials F

  -- a sum with a multiple
  pub coprime_of_sum : (a b b' c : Poly F.cring) → b ≡ P.◌⊕◌ b' (P.◌⊗◌ c a) → IsCoprimeIn F.cring P a b'
      → IsCoprimeIn F.cring P a b
  coprime_of_sum a b b' c e h g da db = h g da (
    P.◌⊕◌ db.0 (P.neg (P.◌⊗◌ c da.0)),
    ring3 P (λ x c a. (x, x ⊞ c ⊠ a ⊞ minus (c ⊠ a))) refl b' c a
        ∙ ap (λ x. P.◌⊕◌ x (P.neg (P.◌⊗◌ c a))) (sym e)
        ∙ ap₂ (λ x y. P.◌⊕◌ x (P.neg (P.◌⊗◌ c y))) db.1 da.1
        ∙ ring4 P (λ u c v g. (u ⊠ g ⊞ minus (c ⊠ (v ⊠ g)), (u ⊞ minus (c ⊠ v)) ⊠ g)) refl db.0 c da.0 g,
  )

  pub coprime_sum : (a b b' c : Poly F.cring) → b ≡ P.◌⊕◌ b' (P.◌⊗◌ c a) → IsCoprimeIn F.cring P a b
      → IsCoprimeIn F.cring P a b'
  coprime_sum a b b' c e = coprime_of_sum a b' b (P.neg c)
      (ring3 P (λ x c a. (x, x ⊞ c ⊠ a ⊞ minus c ⊠ a)) refl b' c a ∙ ap (λ x. P.◌⊕◌ x (P.◌⊗◌ (P.neg c) a)) (sym e))

module _ {E : Type 0} (o : Ops E) (L : FieldLaws o) where
  abbrev F : FieldOn (Elem o)
  F = elements o L

  abbrev R : CommRingOn (Poly F.cring)
  R = field_polynomials F

  abbrev poly : List E → Poly F.cring
  poly = polynomial_of o L

  module _ (a b r : List E) (ha : IsPolynomialList o a) (hb : IsPolynomialList o b) (hr : IsPolynomialList o r)
      (s : IsRemainderOf o (at o a) b r) where
    step : Congruent R (poly b) (poly a) (poly r)
    step = congruent_of_remainder_of o L (poly a) (at o a) (has_polynomial_of o L a ha.over) b r hb.over hr.over s

    -- from the remainder
    pub coprime_of_remainder : IsCoprime o b r → IsCoprime o a b
    coprime_of_remainder h = coprime_lists o L a b ha hb
        (coprime_comm F (poly b) (poly a)
        (coprime_of_sum F (poly b) (poly a) (poly r) step.0 step.1
        (coprime_polynomials o L b r hb hr h)))

    -- to the remainder
    pub coprime_remainder : IsCoprime o a b → IsCoprime o b r
    coprime_remainder h = coprime_lists o L b r hb hr
        (coprime_sum F (poly b) (poly a) (poly r) step.0 step.1
        (coprime_comm F (poly a) (poly b) (coprime_polynomials o L a b ha hb h)))

  -- a polynomial is coprime to 0 where it is a constant other than 0
  pub constant_of_coprime_nil : (a : List E) → IsPolynomialList o a → IsCoprime o a [] → length a ≡ 1
  constant_of_coprime_nil a ha h = omega (
    arith,
    flat,
    length-degree_of_ne_zero F.cring F.zero_test (poly a) nonzero,
    length-polynomial_of o L a ha,
  )
    where
      none : IsPolynomialList o []
      none = record { over = All-nil (IsElem o); trimmed = tt }

      c : IsCoprimeIn F.cring R (poly a) (poly [])
      c = coprime_polynomials o L a [] ha none h

      null : (g : Poly F.cring) → Divides R g (poly [])
      null g = (R.zero, polynomial_of-nil o L ∙ sym (zero-mul R.ring g))

      flat : degree (poly a).0 ≡ 0
      flat = c (poly a) (divides_self F (poly a)) (null (poly a))

      nonzero : poly a ≡ R.zero → ⊥
      nonzero z =
          let t : Poly F.cring = variable F.cring F.zero_test in
          omega (
            arith,
            degree-variable F.cring F.zero_test F.one-nonzero,
            c t (R.zero, z ∙ sym (zero-mul R.ring t)) (null t),
          )

  pub coprime_nil : (a : List E) → IsPolynomialList o a → length a ≡ 1 → IsCoprime o a []
  coprime_nil a ha e = coprime_of_constant_left o L a [] ha e

  -- x and y are coprime where a and b are, and only there
  pub record HasSameDivisors (a b x y : List E) : Type 0 where
    pub first : IsPolynomialList o x
    pub second : IsPolynomialList o y
    pub same : IsCoprime o x y ↔ IsCoprime o a b

  pub same_divisors : (a b x y : List E) → IsPolynomialList o x → IsPolynomialList o y → x ≡ a → y ≡ b
      → HasSameDivisors a b x y
  same_divisors a b x y hx hy ex ey = record {
    first = hx;
    second = hy;
    same = (
      λ h. subst (IsCoprime o a) ey (subst (λ l. IsCoprime o l y) ex h),
      λ h. subst (λ l. IsCoprime o l y) (sym ex) (subst (IsCoprime o a) (sym ey) h),
    );
  }

  pub same_divisors_next : (a b x y q r : List E) → HasSameDivisors a b x y → IsOver o q → IsPolynomialList o r
      → IsDivision o x y q r
      → HasSameDivisors a b y r
  same_divisors_next a b x y q r h hq hr d = record {
    first = h.second;
    second = hr;
    same = (
      λ c. h.same.0 (coprime_of_remainder x y r h.first h.second hr (q, hq, d) c),
      λ c. coprime_remainder x y r h.first h.second hr (q, hq, d) (h.same.1 c),
    );
  }

  pub coprime_iff_constant : (a b x y : List E) → HasSameDivisors a b x y → y ≡ []
      → (length x ≡ 1) ↔ IsCoprime o a b
  coprime_iff_constant a b x y h e = (
    λ l. h.same.0 (subst (IsCoprime o x) (sym e) (coprime_nil x h.first l)),
    λ c. constant_of_coprime_nil x h.first (subst (IsCoprime o x) e (h.same.1 c)),
  )
