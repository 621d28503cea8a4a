-- The sum of fractions by cases: one is 0, one is a polynomial, or neither.
use Rattle.std.specs.Prelude.{◌≡◌, ◌≢◌, List, [], ◌∷◌, length}
use Rattle.std.proofs.Common.{refl, sym, ◌∙◌, ap, ap₂, subst, arith}
use Rattle.theory_rings.specs.Ring.{FieldOn, CommRingOn}
use Rattle.theory_rings.specs.Ops.{Ops, FieldLaws}
use Rattle.theory_rings.specs.Elements.{Elem, elements}
use Rattle.theory_rings.specs.Polynomial.{Poly}
use Rattle.theory_rings.specs.Division.{IsCoprime}
use Rattle.theory_rings.proofs.Rings.Solver.{◌⊞◌, ◌⊠◌, nil, unit, ring2, ring3}
use Rattle.theory_rings.proofs.Polynomials.Bezout.{field_polynomials, poly_mul-ne-zero}
use Rattle.theory_fractions.specs.PolynomialLists.{IsOver, IsSum, IsProduct, IsPolynomialList}
use Rattle.theory_fractions.specs.Fraction.{Pair, IsLowestTerms, IsFraction, IsFractionSum}
use Rattle.theory_fractions.specs.FractionOps.{polynomial_of}
use Rattle.theory_fractions.proofs.FractionField.{polynomial_of-nil}
use Rattle.theory_fractions.proofs.LowestTerms.{coprime_lists, coprime_polynomials}
use Rattle.theory_fractions.proofs.Coprime.{coprime-add_mul}
use Rattle.theory_fractions.proofs.Reducing.{poly-mul, poly-add, poly-ne-zero, eq_of_fraction, lowest_over_one}
use Rattle.theory_fractions.proofs.PairEquations.{pair_over, num, den, sum_of_eq, eq_of_sum, den_one}

-- w is a + b in lowest terms
pub record IsLowestSum {E : Type 0} (o : Ops E) (a b w : Pair E) : Type 0 where
  pub lowest : IsLowestTerms o w.0 w.1
  pub sum : IsFractionSum o a b w

-- products and sums of lists that are others
pub product_same : {E : Type 0} (o : Ops E) (x y x' y' z : List E) → x ≡ x' → y ≡ y' → IsProduct o x y z
    → IsProduct o x' y' z
product_same o x y x' y' z ex ey p = subst (λ v. IsProduct o v y' z) ex (subst (λ v. IsProduct o x v z) ey p)

pub sum_same : {E : Type 0} (o : Ops E) (x y x' y' z : List E) → x ≡ x' → y ≡ y' → IsSum o x y z → IsSum o x' y' z
sum_same o x y x' y' z ex ey p = subst (λ v. IsSum o v y' z) ex (subst (λ v. IsSum o x v z) ey p)

module _ {E : Type 0} (o : Ops E) (L : FieldLaws o) where
  abbrev F : FieldOn (Elem o)
  F = elements o L

  abbrev P : CommRingOn (Poly F.cring)
  P = field_polynomials F

  abbrev Is : List E → Type 0
  Is = IsPolynomialList o

  abbrev Lowest : Pair E → Type 0
  Lowest w = IsLowestTerms o w.0 w.1

  abbrev n : Pair E → Poly F.cring
  n = num o L

  abbrev d : Pair E → Poly F.cring
  d = den o L

  pub numerator_of : (w : Pair E) → Lowest w → Is w.0
  numerator_of w h = record { over = h.numerator_over; trimmed = h.numerator_trimmed }

  pub denominator_of : (w : Pair E) → Lowest w → Is w.1
  denominator_of w h = record { over = h.denominator_over; trimmed = h.denominator_trimmed }

  pub denominator-ne-nil : (w : Pair E) → Lowest w → w.1 ≢ []
  denominator-ne-nil w h e = omega (arith, h.denominator_nonzero, ap length e)

  pub den-ne-zero : (w : Pair E) → Lowest w → d w ≢ P.zero
  den-ne-zero w h = poly-ne-zero o L w.1 (denominator_of w h) (denominator-ne-nil w h)

  num-zero : (w : Pair E) → w.0 ≡ [] → n w ≡ P.zero
  num-zero w e = ap (polynomial_of o L) e ∙ polynomial_of-nil o L

  module _ (a b : Pair E) (ha : Lowest a) (hb : Lowest b) where
    sum_from : (c : Pair E) → Lowest c
        → P.◌⊗◌ (n c) (P.◌⊗◌ (d a) (d b)) ≡ P.◌⊗◌ (P.◌⊕◌ (P.◌⊗◌ (n a) (d b)) (P.◌⊗◌ (n b) (d a))) (d c)
        → IsFractionSum o a b c
    sum_from c hc e = sum_of_eq o L a b c (pair_over o L a ha) (pair_over o L b hb) (pair_over o L c hc) e

    -- where one is 0
    pub zero_sum : a.0 ≡ [] → IsFractionSum o a b b
    zero_sum z = sum_from b hb
        (ring3 P (λ x u v. (u ⊠ (x ⊠ v), (nil ⊠ v ⊞ u ⊠ x) ⊠ v)) refl (d a) (n b) (d b)
        ∙ ap (λ x. P.◌⊗◌ (P.◌⊕◌ (P.◌⊗◌ x (d b)) (P.◌⊗◌ (n b) (d a))) (d b)) (sym (num-zero a z)))

    pub sum_zero : b.0 ≡ [] → IsFractionSum o a b a
    sum_zero z = sum_from a ha
        (ring3 P (λ x u v. (u ⊠ (v ⊠ x), (u ⊠ x ⊞ nil ⊠ v) ⊠ v)) refl (d b) (n a) (d a)
        ∙ ap (λ x. P.◌⊗◌ (P.◌⊕◌ (P.◌⊗◌ (n a) (d b)) (P.◌⊗◌ x (d a))) (d a)) (sym (num-zero b z)))

    -- where both are polynomials
    module _ (hl : length a.1 ≡ 1) (hm : length b.1 ≡ 1) (u : List E) (hu : Is u) (eu : IsSum o a.0 b.0 u) where
      pub polynomials_lowest : Lowest (u, o.one ∷ [])
      polynomials_lowest = lowest_over_one o L u hu

      pub polynomials_sum : IsFractionSum o a b (u, o.one ∷ [])
      polynomials_sum = sum_from (u, o.one ∷ []) polynomials_lowest
          (ap₂ P.◌⊗◌ (poly-add o L a.0 b.0 u ha.numerator_over hb.numerator_over hu.over eu) (ap₂ P.◌⊗◌ one_a one_b)
          ∙ ring2 P (λ x y. ((x ⊞ y) ⊠ (unit ⊠ unit), (x ⊠ unit ⊞ y ⊠ unit) ⊠ unit)) refl (n a) (n b)
          ∙ sym (ap₂ P.◌⊗◌ (ap₂ P.◌⊕◌ (ap (P.◌⊗◌ (n a)) one_b) (ap (P.◌⊗◌ (n b)) one_a))
          (den_one o L (u, o.one ∷ []) polynomials_lowest refl)))
        where
          one_a : d a ≡ P.one
          one_a = den_one o L a ha hl

          one_b : d b ≡ P.one
          one_b = den_one o L b hb hm

    -- where the second is a polynomial
    module _ (hm : length b.1 ≡ 1) (m u : List E) (om : IsOver o m) (em : IsProduct o b.0 a.1 m) (hu : Is u)
        (eu : IsSum o a.0 m u) where
      same_m : polynomial_of o L m ≡ P.◌⊗◌ (n b) (d a)
      same_m = poly-mul o L b.0 a.1 m hb.numerator_over ha.denominator_over om em

      same_u : polynomial_of o L u ≡ P.◌⊕◌ (n a) (P.◌⊗◌ (n b) (d a))
      same_u = poly-add o L a.0 m u ha.numerator_over om hu.over eu ∙ ap (P.◌⊕◌ (n a)) same_m

      pub polynomial_lowest : Lowest (u, a.1)
      polynomial_lowest = record {
        numerator_over = hu.over;
        numerator_trimmed = hu.trimmed;
        denominator_over = ha.denominator_over;
        denominator_trimmed = ha.denominator_trimmed;
        denominator_nonzero = ha.denominator_nonzero;
        monic = ha.monic;
        coprime = coprime_lists o L u a.1 hu (denominator_of a ha)
            (subst (λ x. IsCoprime F.cring P x (d a)) (sym same_u)
            (coprime-add_mul F (n a) (d a) (n b)
            (coprime_polynomials o L a.0 a.1 (numerator_of a ha) (denominator_of a ha) ha.coprime)));
      }

      pub polynomial_sum : IsFractionSum o a b (u, a.1)
      polynomial_sum = sum_from (u, a.1) polynomial_lowest
          (ap₂ P.◌⊗◌ same_u (ap (P.◌⊗◌ (d a)) one_b)
          ∙ ring3 P (λ x y v. ((x ⊞ y ⊠ v) ⊠ (v ⊠ unit), (x ⊠ unit ⊞ y ⊠ v) ⊠ v)) refl (n a) (n b) (d a)
          ∙ ap (λ x. P.◌⊗◌ (P.◌⊕◌ (P.◌⊗◌ (n a) x) (P.◌⊗◌ (n b) (d a))) (d a)) (sym one_b))
        where
          one_b : d b ≡ P.one
          one_b = den_one o L b hb hm

    -- the product of the denominators is not 0
    pub denominators_nonzero : (v : List E) → Is v → IsProduct o a.1 b.1 v → v ≢ []
    denominators_nonzero v hv ev e =
        poly_mul-ne-zero F (d a) (d b) (den-ne-zero a ha) (den-ne-zero b hb)
        (sym (poly-mul o L a.1 b.1 v ha.denominator_over hb.denominator_over hv.over ev) ∙ ap (polynomial_of o L) e
        ∙ polynomial_of-nil o L)

    -- a numerator over the product of the denominators
    module _ (l r u v : List E) (ol : IsOver o l) (or : IsOver o r) (ou : IsOver o u) (hv : Is v)
        (el : IsProduct o a.0 b.1 l) (er : IsProduct o b.0 a.1 r) (eu : IsSum o l r u)
        (ev : IsProduct o a.1 b.1 v) where
      same_v : polynomial_of o L v ≡ P.◌⊗◌ (d a) (d b)
      same_v = poly-mul o L a.1 b.1 v ha.denominator_over hb.denominator_over hv.over ev

      pub reduced_sum : (w : Pair E) → Lowest w → IsFraction o w u v → IsFractionSum o a b w
      reduced_sum w hw e = sum_from w hw
          (ap (P.◌⊗◌ (n w)) (sym same_v) ∙ eq_of_fraction o L w u v hw.numerator_over hw.denominator_over ou hv.over e
          ∙ ap (λ x. P.◌⊗◌ x (d w)) (poly-add o L l r u ol or ou eu
          ∙ ap₂ P.◌⊕◌ (poly-mul o L a.0 b.1 l ha.numerator_over hb.denominator_over ol el)
          (poly-mul o L b.0 a.1 r hb.numerator_over ha.denominator_over or er)))

  -- the sum does not depend on the order
  pub sum_comm : (a b c : Pair E) → Lowest a → Lowest b → Lowest c → IsFractionSum o a b c → IsFractionSum o b a c
  sum_comm a b c ha hb hc s = sum_from b a hb ha c hc
      (ap (P.◌⊗◌ (n c)) (P.mul_comm (d b) (d a))
      ∙ eq_of_sum o L a b c (pair_over o L a ha) (pair_over o L b hb) (pair_over o L c hc) s
      ∙ ap (λ x. P.◌⊗◌ x (d c)) (P.add_comm (P.◌⊗◌ (n a) (d b)) (P.◌⊗◌ (n b) (d a))))

  lowest_sum : (a b w w' : Pair E) → w ≡ w' → IsLowestSum o a b w' → IsLowestSum o a b w
  lowest_sum a b w w' e s = subst (IsLowestSum o a b) (sym e) s

  -- what the code makes, by cases
  pub lowest_sum_of_polynomials : (a b w : Pair E) (u v : List E) → Lowest a → Lowest b → length a.1 ≡ 1
      → length b.1 ≡ 1 → Is u → IsSum o a.0 b.0 u
      → v ≡ o.one ∷ [] → w ≡ (u, v) → IsLowestSum o a b w
  lowest_sum_of_polynomials a b w u v ha hb hl hm hu eu ev e =
      lowest_sum a b w (u, o.one ∷ []) (e ∙ ap (λ y. (u, y)) ev)
      record { lowest = polynomials_lowest a b ha hb hl hm u hu eu; sum = polynomials_sum a b ha hb hl hm u hu eu }

  pub lowest_sum_with_polynomial : (a b w : Pair E) (m u v : List E) → Lowest a → Lowest b → length b.1 ≡ 1
      → IsOver o m → IsProduct o b.0 a.1 m
      → Is u → IsSum o a.0 m u → v ≡ a.1 → w ≡ (u, v) → IsLowestSum o a b w
  lowest_sum_with_polynomial a b w m u v ha hb hm om em hu eu ev e =
      lowest_sum a b w (u, a.1) (e ∙ ap (λ y. (u, y)) ev)
      record {
        lowest = polynomial_lowest a b ha hb hm m u om em hu eu;
        sum =
            polynomial_sum a b ha hb hm m u om em hu eu;
      }
