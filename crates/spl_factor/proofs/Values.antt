-- What the calls of spl_poly answer, as polynomials: differences, remainders of powers, monic multiples, products.
use Rattle.std.specs.Prelude.{◌≡◌, ◌≢◌, ℕ, zero, suc, ◌<◌, List, [], ◌∷◌, length, get_or}
use Rattle.std.proofs.Common.{refl, sym, ◌∙◌, ap, ap₂, subst, arith}
use Rattle.std.proofs.lemmas.Bool.{lt-ltb}
use Rattle.std.proofs.lemmas.List.Elements.{All-nil, All-cons}
use Rattle.theory_rings.specs.Ring.{FieldOn, CommRingOn}
use Rattle.theory_rings.specs.Ops.{Ops, IsElem, FieldLaws}
use Rattle.theory_rings.specs.Elements.{Elem}
use Rattle.theory_rings.specs.Sum.{at}
use Rattle.theory_rings.specs.Power.{power}
use Rattle.theory_rings.specs.Polynomial.{Poly, degree, lead}
use Rattle.theory_rings.specs.Division.{Divides, Congruent, IsGcd}
use Rattle.theory_rings.proofs.Polynomials.PolynomialRing.{constant}
use Rattle.theory_rings.proofs.Polynomials.Constants.{coefficient-constant_mul}
use Rattle.theory_rings.proofs.Polynomials.Degrees.{length-add_le, lead-ne-zero, length-degree_of_ne_zero}
use Rattle.theory_rings.proofs.Polynomials.Degrees.{length_le_suc-degree}
use Rattle.theory_rings.proofs.Polynomials.Bezout.{constant_inverse}
use Rattle.theory_rings.proofs.Polynomials.Irreducible.{degree_le_of_divides}
use Rattle.theory_rings.proofs.Rings.RingLaws.{add-zero, neg_zero}
use Rattle.theory_rings.proofs.Rings.Solver.{◌⊞◌, ◌⊠◌, minus, ring2, ring3}
use Rattle.theory_fractions.proofs.FractionField.{polynomial_of-nil}
use Rattle.theory_fractions.specs.PolynomialLists.{IsOver, IsSum, IsDivision, IsPolynomialList}
use Rattle.theory_fractions.proofs.Lifting.{eq_of_coefficients}
use Rattle.theory_fractions.proofs.ListPolynomials.{has_polynomial_of, has_neg, length-polynomial_of}
use Rattle.theory_fractions.proofs.LowestTerms.{lead_value}
use Rattle.theory_fractions.proofs.Reducing.{poly-ne-zero}
use Rattle.theory_remainders.proofs.Divisions.{poly-sum, poly-division, power_coefficients, has-power}
use Rattle.theory_remainders.proofs.Divisions.{congruent_of_remainder_of}
use Rattle.theory_remainders.proofs.IrreducibleTest.{poly-neg_variable}
use Rattle.theory_remainders.proofs.GcdLists.{gcd_scaled, monic_polynomial}
use Rattle.spl_field.specs.SmallField.{small_ops, small_laws, size_of}
use Rattle.spl_field.specs.declared.small.SmallField.{SmallField}
use Rattle.spl_poly.specs.Operations.{IsMonicOf, IsPowerRemainder, without_zeros}
use Rattle.spl_poly.proofs.Trimming.{get_or-without_zeros}
use Rattle.spl_factor.specs.Steps.{field, ring, poly, x, IsMonicList, IsMonicGcd, IsPowerModulo, DividesList}

module _ (f : SmallField) where
  abbrev o : Ops ℕ
  o = small_ops f

  abbrev L : FieldLaws (small_ops f)
  L = small_laws f

  abbrev F : FieldOn (Elem (small_ops f))
  F = field f

  abbrev P : CommRingOn (Poly (field f).cring)
  P = ring f

  abbrev Is : List ℕ → Type 0
  Is = IsPolynomialList (small_ops f)

  -- a sum with −x
  pub less_variable_value : (a y d : List ℕ) (r : ℕ) → Is a → Is d → IsOver o y → y ≡ without_zeros (0 ∷ r ∷ [])
      → r ≡ o.neg o.one → IsSum o a y d → poly f d ≡ P.◌⊕◌ (poly f a) (P.neg (x f))
  less_variable_value a y d r ha hd hy e er s =
      poly-sum o L a y d ha.over hy hd.over s
      ∙ ap (P.◌⊕◌ (poly f a)) (poly-neg_variable o L y hy (λ k.
      ap (λ (l : List ℕ). get_or l k 0) e ∙ get_or-without_zeros (0 ∷ r ∷ []) k ∙ ap (λ z. get_or (0 ∷ z ∷ []) k 0) er))

  -- a sum with −c
  pub less_constant_value : (a y d : List ℕ) (c r : ℕ) → Is a → Is d → IsElem o c → IsOver o y
      → y ≡ without_zeros (r ∷ []) → r ≡ o.neg c → IsSum o a y d
      → poly f d ≡ P.◌⊕◌ (poly f a) (P.neg (poly f (c ∷ [])))
  less_constant_value a y d c r ha hd hc hy e er s =
      poly-sum o L a y d ha.over hy hd.over s
      ∙ ap (P.◌⊕◌ (poly f a)) (eq_of_coefficients o L (poly f y) (P.neg (poly f (c ∷ []))) (at o y)
      (λ k. o.neg (at o (c ∷ []) k)) (has_polynomial_of o L y hy)
      (has_neg o L (poly f (c ∷ [])) (at o (c ∷ []))
      (has_polynomial_of o L (c ∷ []) (All-cons (IsElem o) c [] hc (All-nil (IsElem o)))))
      (λ k. ap (λ (l : List ℕ). get_or l k 0) e ∙ get_or-without_zeros (r ∷ []) k ∙ each k))
    where
      nought : 0 ≡ o.neg 0
      nought = ap (λ (z : Elem (small_ops f)). z.0) (sym (neg_zero F.additive))

      each : (k : ℕ) → get_or (r ∷ []) k 0 ≡ o.neg (at o (c ∷ []) k)
      each zero = er
      each (suc k) = nought

  pub elem_of : (r : ℕ) → r < size_of f → IsElem o r
  elem_of r l = lt-ltb r (size_of f) l

  pub constant_over : (r : ℕ) → r < size_of f → IsOver o (r ∷ [])
  constant_over r l = All-cons (IsElem o) r [] (elem_of r l) (All-nil (IsElem o))

  pub linear_over : (r : ℕ) → r < size_of f → IsOver o (0 ∷ r ∷ [])
  linear_over r l = All-cons (IsElem o) 0 (r ∷ []) L.zero-elem (constant_over r l)

  -- the remainder of a power
  pub power_value : (a m r : List ℕ) (n e : ℕ) → Is a → Is m → Is r → n ≡ e → IsPowerRemainder o a n m r
      → IsPowerModulo f m a e r
  power_value a m r n e ha hm hr s h =
      subst (λ k. Congruent P (poly f m) (power P.ring (poly f a) k) (poly f r)) s
      (congruent_of_remainder_of o L (power P.ring (poly f a) n) (power_coefficients o L a n)
      (has-power o L (poly f a) a n (has_polynomial_of o L a ha.over)) m r hm.over hr.over h)

  -- the sum of two short polynomials is short
  pub sum_shorter : (a b c : List ℕ) (n : ℕ) → Is a → Is b → Is c → IsSum o a b c → length a < n → length b < n
      → length c < n
  sum_shorter a b c zero ha hb hc s la lb = absurd (omega arith)
  sum_shorter a b c (suc n) ha hb hc s la lb =
      let e = ap (λ (p : Poly F.cring). length p.0) (poly-sum o L a b c ha.over hb.over hc.over s) in
      let xa = length-polynomial_of o L a ha in
      let xb = length-polynomial_of o L b hb in
      let xc = length-polynomial_of o L c hc in
      omega (arith, length-add_le F.cring F.zero_test (poly f a) (poly f b) n (omega arith) (omega arith))

  -- ---- the monic multiple of a polynomial

  module _ (a r : List ℕ) (ha : Is a) (hr : Is r) (n : a ≢ []) (h : IsMonicOf o a r) where
    abbrev A : Poly F.cring
    A = poly f a

    nonzero : A ≢ P.zero
    nonzero = poly-ne-zero o L a ha n

    top : lead F.cring A ≢ F.zero
    top = lead-ne-zero F.cring F.zero_test A nonzero

    abbrev C : Poly F.cring
    C = constant F.cring F.zero_test (F.inv (lead F.cring A))

    scaled : poly f r ≡ P.◌⊗◌ C A
    scaled = eq_of_coefficients o L (poly f r) (P.◌⊗◌ C A) (at o r)
        (λ k. o.mul (o.inv (at o a (degree a))) (at o a k)) (has_polynomial_of o L r hr.over)
        (λ k. ap₂ (λ u v. o.mul (o.inv u) v) (lead_value o L a ha) (has_polynomial_of o L a ha.over k)
        ∙ ap (λ (z : Elem (small_ops f)). z.0)
        (sym (coefficient-constant_mul F.cring F.zero_test (F.inv (lead F.cring A)) A k)))
        h.scaled

    length_pos : (xs : List ℕ) → xs ≢ [] → 0 < length xs
    length_pos [] z = absurd (z refl)
    length_pos (y ∷ ys) z = omega arith

    pub monic_value : IsMonicList f r
    monic_value = record {
      polynomial = hr;
      monic = monic_polynomial o L r hr (omega (arith, h.same_degree, length_pos a n)) h.leading;
    }

    pub monic_gcd : (b c : List ℕ) → IsGcd P (poly f b) (poly f c) A → IsMonicGcd f b c r
    monic_gcd b c d = record {
      list = monic_value;
      gcd = gcd_scaled P (poly f b) (poly f c) A (constant F.cring F.zero_test (lead F.cring A)) C (poly f r) d
          (P.mul_comm (constant F.cring F.zero_test (lead F.cring A)) C
          ∙ constant_inverse F (lead F.cring A) top) scaled;
    }

    -- leading times it is a
    pub monic_back : A ≡ P.◌⊗◌ (constant F.cring F.zero_test (lead F.cring A)) (poly f r)
    monic_back =
        sym (P.one-mul A) ∙ ap (λ y. P.◌⊗◌ y A) (sym (P.mul_comm (constant F.cring F.zero_test (lead F.cring A)) C
        ∙ constant_inverse F (lead F.cring A) top))
        ∙ P.mul_assoc (constant F.cring F.zero_test (lead F.cring A)) C A
        ∙ ap (P.◌⊗◌ (constant F.cring F.zero_test (lead F.cring A))) (sym scaled)

  -- ---- quotients

  pub quotient_value : (a b q r : List ℕ) → IsOver o a → IsOver o b → IsOver o q → IsOver o r → IsDivision o a b q r
      → r ≡ [] → poly f a ≡ P.◌⊗◌ (poly f q) (poly f b)
  quotient_value a b q r ha hb hq hr d e =
      poly-division o L a b q r ha hb hq hr d
      ∙ ap (P.◌⊕◌ (P.◌⊗◌ (poly f q) (poly f b))) (ap (poly f) e ∙ polynomial_of-nil o L)
      ∙ add-zero P.monoid (P.◌⊗◌ (poly f q) (poly f b))

  -- where the remainder is not 0, b does not divide a
  pub not_divides : (a b q r : List ℕ) → IsOver o a → Is b → IsOver o q → Is r → IsDivision o a b q r → r ≢ []
      → DividesList f b a → ⊥
  not_divides a b q r ha hb hq hr d n w =
      let low = degree_le_of_divides F (poly f b) (poly f r) rest nonzero_rest in
      omega (
        arith,
        low,
        d.smaller,
        length-polynomial_of o L b hb,
        length-polynomial_of o L r hr,
        length-degree_of_ne_zero F.cring F.zero_test (poly f r) nonzero_rest,
        length_le_suc-degree F.cring (poly f b),
      )
    where
      nonzero_rest : poly f r ≢ P.zero
      nonzero_rest = poly-ne-zero o L r hr n

      rest : Divides P (poly f b) (poly f r)
      rest = (
        P.◌⊕◌ w.0 (P.neg (poly f q)),
        ring2 P (λ r q. (r, (q ⊞ r) ⊞ minus q)) refl (poly f r) (P.◌⊗◌ (poly f q) (poly f b))
            ∙ ap (λ y. P.◌⊕◌ y (P.neg (P.◌⊗◌ (poly f q) (poly f b))))
            (sym (poly-division o L a b q r ha hb.over hq hr.over d) ∙ w.1)
            ∙ ring3 P (λ w q b. (w ⊠ b ⊞ minus (q ⊠ b), (w ⊞ minus q) ⊠ b)) refl w.0 (poly f q) (poly f b),
      )
