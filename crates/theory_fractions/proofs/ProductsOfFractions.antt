-- The product of fractions by cases, the negative, and the inverse.
use Rattle.std.specs.Prelude.{◌≡◌, ◌≢◌, List, [], ◌∷◌, length}
use Rattle.std.proofs.Common.{refl, sym, ◌∙◌, ap, ap₂, subst, arith}
use Rattle.theory_rings.specs.Ring.{FieldOn, CommRingOn}
use Rattle.theory_rings.specs.Ops.{Ops, FieldLaws}
use Rattle.theory_rings.specs.Elements.{Elem, Elem-path, elements}
use Rattle.theory_rings.specs.Polynomial.{Poly, coefficient, lead}
use Rattle.theory_rings.specs.Division.{IsCoprime}
use Rattle.theory_rings.proofs.Rings.Solver.{◌⊠◌, minus, nil, unit, ring1, ring3}
use Rattle.theory_rings.proofs.Polynomials.PolynomialRing.{Poly-path, coefficient-neg, constant}
use Rattle.theory_rings.proofs.Polynomials.Degrees.{ne_zero_of_length, length-degree_of_ne_zero}
use Rattle.theory_rings.proofs.Polynomials.Constants.{coefficient-constant_mul}
use Rattle.theory_rings.proofs.Polynomials.Bezout.{field_polynomials, degree_zero_inverse}
use Rattle.theory_fractions.specs.PolynomialLists.{IsProduct, IsPolynomialList}
use Rattle.theory_fractions.specs.Fraction.{Pair, IsCoprime as IsCoprimeList, IsLowestTerms, IsFraction}
use Rattle.theory_fractions.specs.Fraction.{IsFractionProduct, IsFractionNegative}
use Rattle.theory_fractions.specs.FractionOps.{polynomial_of}
use Rattle.theory_fractions.proofs.FractionField.{polynomial_of-nil}
use Rattle.theory_fractions.proofs.ListPolynomials.{length-polynomial_of}
use Rattle.theory_fractions.proofs.LowestTerms.{coprime_lists, coprime_polynomials}
use Rattle.theory_fractions.proofs.Coprime.{coprime-unit_mul}
use Rattle.theory_fractions.proofs.Reducing.{poly-mul, eq_of_fraction, constant_poly, poly-constant_mul, constant_unit}
use Rattle.theory_fractions.proofs.PairEquations.{pair_over, num, den, product_of_eq, eq_of_product, negative_of_eq}
use Rattle.theory_fractions.proofs.PairEquations.{den_one}
use Rattle.theory_fractions.proofs.SumsOfFractions.{numerator_of, denominator_of}

-- w is a · b in lowest terms
pub record IsLowestProduct {E : Type 0} (o : Ops E) (a b w : Pair E) : Type 0 where
  pub lowest : IsLowestTerms o w.0 w.1
  pub product : IsFractionProduct o a b w

-- w is −a in lowest terms
pub record IsLowestNegative {E : Type 0} (o : Ops E) (a w : Pair E) : Type 0 where
  pub lowest : IsLowestTerms o w.0 w.1
  pub negative : IsFractionNegative o a w

-- lists that are the denominator and the numerator
pub coprime_lists_swap : {E : Type 0} (o : Ops E) (u v x y : List E) → x ≡ v → y ≡ u → IsCoprimeList o u v
    → IsCoprimeList o x y
coprime_lists_swap o u v x y ex ey h =
    subst (λ z. IsCoprimeList o z y) (sym ex) (subst (IsCoprimeList o v) (sym ey) (λ g og tg dv du. h g og tg du dv))

pub fraction_same : {E : Type 0} (o : Ops E) (w : Pair E) (u v u' v' : List E) → u ≡ u' → v ≡ v' → IsFraction o w u v
    → IsFraction o w u' v'
fraction_same o w u v u' v' eu ev h = subst (λ x. IsFraction o w x v') eu (subst (IsFraction o w u) ev h)

module _ {E : Type 0} (o : Ops E) (L : FieldLaws o) where
  abbrev F : FieldOn (Elem o)
  F = elements o L

  abbrev P : CommRingOn (Poly F.cring)
  P = field_polynomials F

  abbrev Is : List E → Type 0
  Is = IsPolynomialList o

  abbrev Lowest : Pair E → Type 0
  Lowest w = IsLowestTerms o w.0 w.1

  abbrev n : Pair E → Poly F.cring
  n = num o L

  abbrev d : Pair E → Poly F.cring
  d = den o L

  num-zero : (w : Pair E) → w.0 ≡ [] → n w ≡ P.zero
  num-zero w e = ap (polynomial_of o L) e ∙ polynomial_of-nil o L

  -- with the numerator times a unit
  lowest-unit_mul : (a : Pair E) → Lowest a → (u : List E) → Is u → (k l : Poly F.cring) → P.◌⊗◌ k l ≡ P.one
      → polynomial_of o L u ≡ P.◌⊗◌ k (n a) → Lowest (u, a.1)
  lowest-unit_mul a ha u hu k l e same = record {
    numerator_over = hu.over;
    numerator_trimmed = hu.trimmed;
    denominator_over = ha.denominator_over;
    denominator_trimmed = ha.denominator_trimmed;
    denominator_nonzero = ha.denominator_nonzero;
    monic = ha.monic;
    coprime = coprime_lists o L u a.1 hu (denominator_of o L a ha)
        (subst (λ x. IsCoprime F.cring P x (d a)) (sym same)
        (coprime-unit_mul F (n a) (d a) k l e
        (coprime_polynomials o L a.0 a.1 (numerator_of o L a ha) (denominator_of o L a ha) ha.coprime)));
  }

  module _ (a b : Pair E) (ha : Lowest a) (hb : Lowest b) where
    product_from : (c : Pair E) → Lowest c → P.◌⊗◌ (n c) (P.◌⊗◌ (d a) (d b)) ≡ P.◌⊗◌ (P.◌⊗◌ (n a) (n b)) (d c)
        → IsFractionProduct o a b c
    product_from c hc e = product_of_eq o L a b c (pair_over o L a ha) (pair_over o L b hb) (pair_over o L c hc) e

    -- where one is 0
    pub zero_product : a.0 ≡ [] → IsFractionProduct o a b a
    zero_product z = product_from a ha
        (ap (λ x. P.◌⊗◌ x (P.◌⊗◌ (d a) (d b))) (num-zero a z)
        ∙ ring3 P (λ x u v. (nil ⊠ (x ⊠ v), nil ⊠ u ⊠ x)) refl (d a) (n b) (d b)
        ∙ ap (λ x. P.◌⊗◌ (P.◌⊗◌ x (n b)) (d a)) (sym (num-zero a z)))

    pub product_zero : b.0 ≡ [] → IsFractionProduct o a b b
    product_zero z = product_from b hb
        (ap (λ x. P.◌⊗◌ x (P.◌⊗◌ (d a) (d b))) (num-zero b z)
        ∙ ring3 P (λ x u v. (nil ⊠ (x ⊠ v), u ⊠ nil ⊠ v)) refl (d a) (n a) (d b)
        ∙ ap (λ x. P.◌⊗◌ (P.◌⊗◌ (n a) x) (d b)) (sym (num-zero b z)))

    -- where the first is a constant
    module _ (hk : length a.0 ≡ 1) (hl : length a.1 ≡ 1) (u : List E) (hu : Is u) (eu : IsProduct o a.0 b.0 u) where
      same_u : polynomial_of o L u ≡ P.◌⊗◌ (n a) (n b)
      same_u = poly-mul o L a.0 b.0 u ha.numerator_over hb.numerator_over hu.over eu

      inverse : Poly F.cring
      inverse = constant F.cring F.zero_test (F.inv (lead F.cring (n a)))

      unit_numerator : P.◌⊗◌ (n a) inverse ≡ P.one
      unfolding inverse
      unit_numerator =
          let long = length-polynomial_of o L a.0 (numerator_of o L a ha) in
          let nonzero : n a ≢ P.zero = ne_zero_of_length F.cring F.zero_test (n a) (omega (arith, long)) in
          P.mul_comm (n a) (constant F.cring F.zero_test (F.inv (lead F.cring (n a))))
          ∙ degree_zero_inverse F (n a) nonzero
          (omega (arith, long, length-degree_of_ne_zero F.cring F.zero_test (n a) nonzero))

      pub constant_lowest : Lowest (u, b.1)
      constant_lowest = lowest-unit_mul b hb u hu (n a) inverse unit_numerator same_u

      pub constant_product : IsFractionProduct o a b (u, b.1)
      constant_product = product_from (u, b.1) constant_lowest
          (ap₂ P.◌⊗◌ same_u (ap (λ x. P.◌⊗◌ x (d b)) (den_one o L a ha hl) ∙ P.one-mul (d b)))

    -- a numerator over the product of the denominators
    module _ (u v : List E) (hu : Is u) (hv : Is v) (eu : IsProduct o a.0 b.0 u) (ev : IsProduct o a.1 b.1 v) where
      pub reduced_product : (w : Pair E) → Lowest w → IsFraction o w u v → IsFractionProduct o a b w
      reduced_product w hw e = product_from w hw
          (ap (P.◌⊗◌ (n w)) (sym (poly-mul o L a.1 b.1 v ha.denominator_over hb.denominator_over hv.over ev))
          ∙ eq_of_fraction o L w u v hw.numerator_over hw.denominator_over hu.over hv.over e
          ∙ ap (λ x. P.◌⊗◌ x (d w)) (poly-mul o L a.0 b.0 u ha.numerator_over hb.numerator_over hu.over eu))

  -- the product does not depend on the order
  pub product_comm : (a b c : Pair E) → Lowest a → Lowest b → Lowest c → IsFractionProduct o a b c
      → IsFractionProduct o b a c
  product_comm a b c ha hb hc s = product_from b a hb ha c hc
      (ap (P.◌⊗◌ (n c)) (P.mul_comm (d b) (d a))
      ∙ eq_of_product o L a b c (pair_over o L a ha) (pair_over o L b hb) (pair_over o L c hc) s
      ∙ ap (λ x. P.◌⊗◌ x (d c)) (P.mul_comm (n a) (n b)))

  -- ---- the negative

  -- −1 is not 0
  pub neg_one-ne-zero : o.neg o.one ≢ o.zero
  neg_one-ne-zero e =
      F.one-nonzero (ring1 F.cring (λ x. (x, minus (minus x))) refl F.one
      ∙ ap F.neg (Elem-path o (F.neg F.one) F.zero e) ∙ ring1 F.cring (λ x. (minus nil, nil)) refl F.one)

  -- −1 times a fraction
  module _ (a : Pair E) (ha : Lowest a) (u : List E) (hu : Is u) (eu : IsProduct o (o.neg o.one ∷ []) a.0 u) where
    abbrev minus_one : Elem o
    minus_one = F.neg F.one

    abbrev k : Poly F.cring
    k = constant_poly o L minus_one.0 minus_one.1

    minus_one-mul : (p : Poly F.cring) → P.◌⊗◌ k p ≡ P.neg p
    minus_one-mul p = Poly-path F.cring (P.◌⊗◌ k p) (P.neg p) (λ i.
        coefficient-constant_mul F.cring F.zero_test minus_one p i
        ∙ ring1 F.cring (λ x. (minus unit ⊠ x, minus x)) refl (coefficient F.cring p i)
        ∙ sym (coefficient-neg F.cring F.zero_test p i))

    square : P.◌⊗◌ k k ≡ P.one
    square = constant_unit o L minus_one.0 minus_one.1 minus_one
        (ap (λ x. x.0) (ring1 F.cring (λ x. (minus unit ⊠ minus unit, unit)) refl F.one))

    same_negative : polynomial_of o L u ≡ P.◌⊗◌ k (n a)
    same_negative = poly-constant_mul o L minus_one.0 minus_one.1 a.0 u ha.numerator_over hu.over eu

    pub negative_lowest : Lowest (u, a.1)
    negative_lowest = lowest-unit_mul a ha u hu k k square same_negative

    pub negative_value : IsFractionNegative o a (u, a.1)
    negative_value =
        negative_of_eq o L a (u, a.1) (pair_over o L a ha) (pair_over o L (u, a.1) negative_lowest)
        (ap (λ x. P.◌⊗◌ x (d a)) (same_negative ∙ minus_one-mul (n a)))

  -- what the code makes
  pub lowest_product_with_constant : (a b w : Pair E) (u v : List E) → Lowest a → Lowest b → length a.0 ≡ 1
      → length a.1 ≡ 1 → Is u → IsProduct o a.0 b.0 u
      → v ≡ b.1 → w ≡ (u, v) → IsLowestProduct o a b w
  lowest_product_with_constant a b w u v ha hb hk hl hu eu ev e =
      subst (IsLowestProduct o a b) (sym (e ∙ ap (λ y. (u, y)) ev))
      record { lowest = constant_lowest a b ha hb hk hl u hu eu; product = constant_product a b ha hb hk hl u hu eu }

  pub lowest_negative : (a w : Pair E) (c : E) (u v : List E) → Lowest a → c ≡ o.neg o.one → Is u
      → IsProduct o (c ∷ []) a.0 u → v ≡ a.1 → w ≡ (u, v)
      → IsLowestNegative o a w
  lowest_negative a w c u v ha ec hu eu ev e =
      let eu' : IsProduct o (o.neg o.one ∷ []) a.0 u = subst (λ x. IsProduct o (x ∷ []) a.0 u) ec eu in
      subst (IsLowestNegative o a) (sym (e ∙ ap (λ y. (u, y)) ev))
      record { lowest = negative_lowest a ha u hu eu'; negative = negative_value a ha u hu eu' }
