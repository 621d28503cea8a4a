-- Euclid's algorithm, on lists over a program's field.
use Rattle.std.specs.Prelude.{◌≡◌, ℕ, zero, suc, List, [], ◌∷◌, length, get_or, true, false, Option, Some, None}
use Rattle.std.specs.Prelude.{MatchOption}
use Rattle.std.specs.Option.{option_eq}
use Rattle.std.proofs.Math.Dec.{eqb}
use Rattle.std.proofs.lemmas.Bool.{eqb-true}
use Rattle.std.proofs.Common.{refl, sym, ◌∙◌, ap, ap₂, subst, arith}
use Rattle.std.proofs.lemmas.List.Elements.{All-nil, All-get_or}
use Rattle.theory_rings.specs.Ring.{FieldOn, CommRingOn}
use Rattle.theory_rings.specs.Ops.{Ops, IsElem, FieldLaws}
use Rattle.theory_rings.specs.Elements.{Elem, elements}
use Rattle.theory_rings.specs.Sum.{at}
use Rattle.theory_rings.specs.Polynomial.{IsTrimmed, degree, Poly, convolution_of, constant_coefficients}
use Rattle.theory_rings.proofs.Rings.RingLaws.{mul-zero, zero-mul, add-zero}
use Rattle.theory_rings.proofs.Rings.Solver.{◌⊞◌, ◌⊠◌, minus, unit, v0, v1, v2, v3, v4, var, by_sorted, ring3, ring4}
use Rattle.theory_rings.proofs.Polynomials.PolynomialRing.{last-ne-zero, constant, coefficient-constant}
use Rattle.theory_rings.proofs.Polynomials.Constants.{constant_hom, constant-one, constant-zero}
use Rattle.spl_poly.specs.Operations.{IsOver, IsProduct, IsDivision, Divides}
use Rattle.spl_lattice.specs.Steps.{IsConstant, IsCombinationOfTwo, IsSumWithMultiple, IsReduction, IsGreatestDivisor}
use Rattle.theory_fractions.proofs.Coefficients.{add-zero_elem, convolution_of-elem}
use Rattle.theory_rings.proofs.Polynomials.Bezout.{constant_inverse}
use Rattle.theory_fractions.proofs.Lifting.{P, Has, lift, has-lift, eq_of_coefficients, coefficients_of_eq, has-add}
use Rattle.theory_fractions.proofs.Lifting.{has-mul, lift_nil, lift-mul, product_of_lift, lift-divides, divides_of_lift}

module _ {E : Type 0} (o : Ops E) (a b : List E) where
  -- what the algorithm keeps of (x, s, t) and (y, s', t'): both values are combinations, and what divides both divides
  -- a and b
  pub record IsEuclid (x s t y s' t' : List E) : Type 0 where
    pub s_over : IsOver o s
    pub t_over : IsOver o t
    pub s'_over : IsOver o s'
    pub t'_over : IsOver o t'
    pub x_over : IsOver o x
    pub y_over : IsOver o y
    pub first : IsCombinationOfTwo o a b s t x
    pub second : IsCombinationOfTwo o a b s' t' y
    pub divides-left : (d : List E) → IsOver o d → Divides o d x → Divides o d y → Divides o d a
    pub divides-right : (d : List E) → IsOver o d → Divides o d x → Divides o d y → Divides o d b

module _ {E : Type 0} (o : Ops E) (L : FieldLaws o) where
  abbrev G : FieldOn (Elem o)
  G = elements o L

  abbrev Q : CommRingOn (Poly G.cring)
  Q = P o L

  abbrev up : List E → Poly G.cring
  up = lift o L

  pub lift-constant : (c : E) (hc : IsElem o c) (p : List E) → IsOver o p → IsConstant o c p
      → up p ≡ constant G.cring G.zero_test (c, hc)
  lift-constant c hc p hp e =
      eq_of_coefficients o L (up p) (constant G.cring G.zero_test (c, hc)) (at o p) (constant_coefficients o.zero c)
      (has-lift o L p hp)
      (λ k. go k ∙ ap (λ x. x.0) (sym (coefficient-constant G.cring G.zero_test (c, hc) k))) e
    where
      go : (k : ℕ) → constant_coefficients o.zero c k ≡ (constant_coefficients G.zero (c, hc) k).0
      go zero = refl
      go (suc k) = refl

  pub lift_one : (p : List E) → IsOver o p → IsConstant o o.one p → up p ≡ Q.one
  lift_one p hp e = lift-constant o.one L.one-elem p hp e ∙ constant-one G.cring G.zero_test

  -- sums with multiples and combinations, as equations
  pub lift-sum_with_multiple : (a m b r : List E) → IsOver o a → IsOver o m → IsOver o b → IsOver o r
      → IsSumWithMultiple o a m b r
      → up r ≡ Q.◌⊕◌ (up a) (Q.◌⊗◌ (up m) (up b))
  lift-sum_with_multiple a m b r ha hm hb hr e =
      eq_of_coefficients o L (up r) (Q.◌⊕◌ (up a) (Q.◌⊗◌ (up m) (up b))) (at o r)
      (λ k. o.add (at o a k) (convolution_of o (at o m) (at o b) k))
      (has-lift o L r hr)
      (has-add o L (up a) (Q.◌⊗◌ (up m) (up b)) (at o a) (convolution_of o (at o m) (at o b)) (has-lift o L a ha)
      (has-mul o L (up m) (up b) (at o m) (at o b) (has-lift o L m hm) (has-lift o L b hb))) e

  pub sum_with_multiple_of_lift : (a m b r : List E) → IsOver o a → IsOver o m → IsOver o b → IsOver o r
      → up r ≡ Q.◌⊕◌ (up a) (Q.◌⊗◌ (up m) (up b)) → IsSumWithMultiple o a m b r
  sum_with_multiple_of_lift a m b r ha hm hb hr e =
      coefficients_of_eq o L (up r) (Q.◌⊕◌ (up a) (Q.◌⊗◌ (up m) (up b))) (at o r)
      (λ k. o.add (at o a k) (convolution_of o (at o m) (at o b) k))
      (has-lift o L r hr)
      (has-add o L (up a) (Q.◌⊗◌ (up m) (up b)) (at o a) (convolution_of o (at o m) (at o b)) (has-lift o L a ha)
      (has-mul o L (up m) (up b) (at o m) (at o b) (has-lift o L m hm) (has-lift o L b hb))) e

  module _ (a b : List E) (ha : IsOver o a) (hb : IsOver o b) where
    combination-has : (s t : List E) → IsOver o s → IsOver o t
        → Has o L (Q.◌⊕◌ (Q.◌⊗◌ (up s) (up a)) (Q.◌⊗◌ (up t) (up b)))
        (λ k. o.add (convolution_of o (at o s) (at o a) k) (convolution_of o (at o t) (at o b) k))
    combination-has s t hs ht =
        has-add o L (Q.◌⊗◌ (up s) (up a)) (Q.◌⊗◌ (up t) (up b)) (convolution_of o (at o s) (at o a))
        (convolution_of o (at o t) (at o b))
        (has-mul o L (up s) (up a) (at o s) (at o a) (has-lift o L s hs) (has-lift o L a ha))
        (has-mul o L (up t) (up b) (at o t) (at o b) (has-lift o L t ht) (has-lift o L b hb))

    pub lift-combination : (s t v : List E) → IsOver o s → IsOver o t → IsOver o v → IsCombinationOfTwo o a b s t v
        → up v ≡ Q.◌⊕◌ (Q.◌⊗◌ (up s) (up a)) (Q.◌⊗◌ (up t) (up b))
    lift-combination s t v hs ht hv e =
        eq_of_coefficients o L (up v) (Q.◌⊕◌ (Q.◌⊗◌ (up s) (up a)) (Q.◌⊗◌ (up t) (up b))) (at o v)
        (λ k. o.add (convolution_of o (at o s) (at o a) k) (convolution_of o (at o t) (at o b) k)) (has-lift o L v hv)
        (combination-has s t hs ht) e

    pub combination_of_lift : (s t v : List E) → IsOver o s → IsOver o t → IsOver o v
        → up v ≡ Q.◌⊕◌ (Q.◌⊗◌ (up s) (up a)) (Q.◌⊗◌ (up t) (up b)) → IsCombinationOfTwo o a b s t v
    combination_of_lift s t v hs ht hv e =
        coefficients_of_eq o L (up v) (Q.◌⊕◌ (Q.◌⊗◌ (up s) (up a)) (Q.◌⊗◌ (up t) (up b))) (at o v)
        (λ k. o.add (convolution_of o (at o s) (at o a) k) (convolution_of o (at o t) (at o b) k)) (has-lift o L v hv)
        (combination-has s t hs ht) e

    -- it begins with (a, 1, 0) and (b, 0, 1)
    pub euclid_start : (one : List E) → IsOver o one → IsConstant o o.one one → IsEuclid o a b a one [] b [] one
    euclid_start one ho eo = record {
      s_over = ho;
      t_over = All-nil (IsElem o);
      s'_over = All-nil (IsElem o);
      t'_over = ho;
      x_over = ha;
      y_over = hb;
      first = combination_of_lift one [] a ho (All-nil (IsElem o)) ha
          (sym (ap₂ Q.◌⊕◌ (ap (λ x. Q.◌⊗◌ x (up a)) (lift_one one ho eo) ∙ Q.one-mul (up a))
          (ap (λ x. Q.◌⊗◌ x (up b)) (lift_nil o L) ∙ zero-mul Q.ring (up b))
          ∙ add-zero Q.monoid (up a)));
      second = combination_of_lift [] one b (All-nil (IsElem o)) ho hb
          (sym (ap₂ Q.◌⊕◌ (ap (λ x. Q.◌⊗◌ x (up a)) (lift_nil o L) ∙ zero-mul Q.ring (up a))
          (ap (λ x. Q.◌⊗◌ x (up b)) (lift_one one ho eo) ∙ Q.one-mul (up b))
          ∙ Q.zero-add (up b)));
      divides-left = λ d hd da db. da;
      divides-right = λ d hd da db. db;
    }

    -- a combination of combinations
    combination_step : (x s t y s' t' z u v m : List E) → IsOver o x → IsOver o s → IsOver o t → IsOver o y
        → IsOver o s' → IsOver o t'
        → IsOver o z → IsOver o u → IsOver o v → IsOver o m
        → IsCombinationOfTwo o a b s t x → IsCombinationOfTwo o a b s' t' y → IsSumWithMultiple o x m y z
        → IsSumWithMultiple o s m s' u → IsSumWithMultiple o t m t' v
        → IsCombinationOfTwo o a b u v z
    combination_step x s t y s' t' z u v m hx hs ht hy hs' ht' hz hu hv hm ex ey ez eu ev =
        combination_of_lift u v z hu hv hz
        (lift-sum_with_multiple x m y z hx hm hy hz ez
        ∙ ap₂ Q.◌⊕◌ (lift-combination s t x hs ht hx ex) (ap (Q.◌⊗◌ (up m)) (lift-combination s' t' y hs' ht' hy ey))
        ∙ by_sorted Q (up s ∷ up a ∷ up t ∷ up b ∷ up m ∷ up s' ∷ up t' ∷ [])
        ((v0 ⊠ v1 ⊞ v2 ⊠ v3) ⊞ v4 ⊠ (var 5 ⊠ v1 ⊞ var 6 ⊠ v3)) ((v0 ⊞ v4 ⊠ var 5) ⊠ v1 ⊞ (v2 ⊞ v4 ⊠ var 6) ⊠ v3) refl
        ∙ sym (ap₂ (λ p q. Q.◌⊕◌ (Q.◌⊗◌ p (up a)) (Q.◌⊗◌ q (up b))) (lift-sum_with_multiple s m s' u hs hm hs' hu eu)
        (lift-sum_with_multiple t m t' v ht hm ht' hv ev)))

    -- what divides y and z = x + m · y divides x
    divides_step : (x m y z d : List E) → IsOver o x → IsOver o m → IsOver o y → IsOver o z → IsOver o d
        → IsSumWithMultiple o x m y z
        → Divides o d y → Divides o d z → Divides o d x
    divides_step x m y z d hx hm hy hz hd e dy dz =
        let p = lift-divides o L d y hd hy dy in
        let q = lift-divides o L d z hd hz dz in
        divides_of_lift o L d x hd hx (
          Q.◌⊕◌ q.0 (Q.neg (Q.◌⊗◌ (up m) p.0)),
          ring3 Q (λ x m y. (x, (x ⊞ m ⊠ y) ⊞ minus (m ⊠ y))) refl (up x) (up m) (up y)
              ∙ ap₂ (λ r s. Q.◌⊕◌ r (Q.neg (Q.◌⊗◌ (up m) s)))
              (sym (lift-sum_with_multiple x m y z hx hm hy hz e) ∙ q.1) p.1
              ∙ ring4 Q (λ q d m p. (q ⊠ d ⊞ minus (m ⊠ (p ⊠ d)), (q ⊞ minus (m ⊠ p)) ⊠ d)) refl q.0 (up d) (up m) p.0,
        )

    pub euclid_step : (x s t y s' t' z u v : List E) → IsEuclid o a b x s t y s' t'
        → IsReduction o x s t y s' t' z u v → IsOver o z → IsOver o u → IsOver o v
        → IsEuclid o a b y s' t' z u v
    euclid_step x s t y s' t' z u v e r hz hu hv =
        let back : (d : List E) → IsOver o d → Divides o d y → Divides o d z → Divides o d x =
        λ d hd. divides_step x r.multiple y z d e.x_over r.over e.y_over hz hd r.value in
        record {
          s_over = e.s'_over;
          t_over = e.t'_over;
          s'_over = hu;
          t'_over = hv;
          x_over = e.y_over;
          y_over = hz;
          first = e.second;
          second = combination_step x s t y s' t' z u v r.multiple e.x_over e.s_over e.t_over e.y_over e.s'_over
              e.t'_over hz hu hv r.over
              e.first e.second r.value r.left r.right;
          divides-left = λ d hd dy dz. e.divides-left d hd (back d hd dy dz) dy;
          divides-right = λ d hd dy dz. e.divides-right d hd (back d hd dy dz) dy;
        }

    -- it ends where the second value is 0
    pub divides_refl : (one x : List E) → IsOver o one → IsConstant o o.one one → IsOver o x → Divides o x x
    divides_refl one x ho eo hx = (
      one,
      ho,
      product_of_lift o L one x x ho hx hx
          (sym (ap (λ y. Q.◌⊗◌ y (up x)) (lift_one one ho eo) ∙ Q.one-mul (up x))),
    )

    pub divides_nil : (x : List E) → IsOver o x → Divides o x []
    divides_nil x hx = (
      [],
      All-nil (IsElem o),
      product_of_lift o L [] x [] (All-nil (IsElem o)) hx (All-nil (IsElem o))
          (lift_nil o L ∙ sym (ap (λ y. Q.◌⊗◌ y (up x)) (lift_nil o L) ∙ zero-mul Q.ring (up x))),
    )

    pub euclid_end : (one x s t y s' t' : List E) → IsOver o one → IsConstant o o.one one
        → IsEuclid o a b x s t y s' t' → y ≡ []
        → IsGreatestDivisor o a b s t x
    euclid_end one x s t y s' t' ho eo e z =
        let own : Divides o x x = divides_refl one x ho eo e.x_over in
        let null : Divides o x y = subst (Divides o x) (sym z) (divides_nil x e.x_over) in
        record {
          combination = e.first;
          divides-left = e.divides-left x e.x_over own null;
          divides-right = e.divides-right x e.x_over own null;
        }

    -- it begins so, where copies stand in the places
    pub euclid_start_from : (one x s t y s' t' : List E) → IsOver o one → IsConstant o o.one one → x ≡ a → s ≡ one
        → t ≡ [] → y ≡ b → s' ≡ [] → t' ≡ one
        → IsEuclid o a b x s t y s' t'
    euclid_start_from one x s t y s' t' ho eo ex es et ey es' et' =
        rw (ex, es, et, ey, es', et') (euclid_start one ho eo)

  -- the remainder is the dividend and the negative of the quotient times the divisor
  pub remainder_is_sum : (x y q r minus_one m : List E) → IsOver o x → IsOver o y → IsOver o q → IsOver o r
      → IsOver o minus_one → IsOver o m
      → IsDivision o x y q r → IsConstant o (o.neg o.one) minus_one → IsProduct o q minus_one m
      → IsSumWithMultiple o x m y r
  remainder_is_sum x y q r minus_one m hx hy hq hr hn hm d en em =
      sum_with_multiple_of_lift x m y r hx hm hy hr (sym (
      ap₂ (λ p s. Q.◌⊕◌ p (Q.◌⊗◌ s (up y))) whole (lift-mul o L q minus_one m hq hn hm em)
      ∙ ring4 Q (λ q y r n. ((q ⊠ y ⊞ r) ⊞ (q ⊠ n) ⊠ y, r ⊞ (q ⊠ y) ⊠ (n ⊞ unit))) refl (up q) (up y) (up r)
      (up minus_one)
      ∙ ap (λ z. Q.◌⊕◌ (up r) (Q.◌⊗◌ (Q.◌⊗◌ (up q) (up y)) z)) null
      ∙ ap (Q.◌⊕◌ (up r)) (mul-zero Q.ring (Q.◌⊗◌ (up q) (up y))) ∙ add-zero Q.monoid (up r)))
    where
      whole : up x ≡ Q.◌⊕◌ (Q.◌⊗◌ (up q) (up y)) (up r)
      whole =
          eq_of_coefficients o L (up x) (Q.◌⊕◌ (Q.◌⊗◌ (up q) (up y)) (up r)) (at o x)
          (λ k. o.add (convolution_of o (at o q) (at o y) k) (at o r k))
          (has-lift o L x hx)
          (has-add o L (Q.◌⊗◌ (up q) (up y)) (up r) (convolution_of o (at o q) (at o y)) (at o r)
          (has-mul o L (up q) (up y) (at o q) (at o y) (has-lift o L q hq) (has-lift o L y hy))
          (has-lift o L r hr)) d.whole

      null : Q.◌⊕◌ (up minus_one) Q.one ≡ Q.zero
      null =
          let H = constant_hom G.cring G.zero_test in
          let minus : Elem o = G.neg G.one in
          ap₂ Q.◌⊕◌ (lift-constant (o.neg o.one) minus.1 minus_one hn en) (sym (constant-one G.cring G.zero_test))
          ∙ sym (H.map-add minus G.one) ∙ ap (constant G.cring G.zero_test) (G.neg-add G.one)
          ∙ constant-zero G.cring G.zero_test

  constant_list : (x : E) → IsConstant o x (x ∷ [])
  constant_list x zero = refl
  constant_list x (suc k) = refl

  -- where the remainder is 0, the divisor divides
  pub divides_of_division : (a b q r : List E) → IsOver o a → IsOver o q → IsDivision o b a q r → r ≡ [] → Divides o a b
  divides_of_division a b q r ha hq d e = (
    q,
    hq,
    λ k. d.whole k ∙ ap (λ s. o.add (convolution_of o (at o q) (at o a) k) (at o s k)) e
        ∙ add-zero_elem o L (convolution_of o (at o q) (at o a) k) (convolution_of-elem o L q a hq ha k),
  )

  -- a constant that is not 0 divides everything
  pub divides_of_constant : (a b : List E) → IsOver o a → IsTrimmed o.zero a → length a ≡ 1 → IsOver o b → Divides o a b
  divides_of_constant [] b ha ta l hb = absurd (omega arith)
  divides_of_constant (x ∷ []) b ha ta l hb =
      let hx : IsElem o x = All-get_or (IsElem o) (x ∷ []) 0 x (omega arith) ha in
      let c : Elem o = (x, hx) in
      let u : Poly G.cring = constant G.cring G.zero_test (G.inv c) in
      divides_of_lift o L (x ∷ []) b ha hb (
        Q.◌⊗◌ (up b) u,
        sym (Q.mul_assoc (up b) u (up (x ∷ []))
            ∙ ap (λ p. Q.◌⊗◌ (up b) (Q.◌⊗◌ u p)) (lift-constant x hx (x ∷ []) ha (constant_list x))
            ∙ ap (Q.◌⊗◌ (up b)) (constant_inverse G c (λ e. ta (ap (λ y. y.0) e))) ∙ Q.mul-one (up b)),
      )
  divides_of_constant (x ∷ y ∷ ys) b ha ta l hb = absurd (omega arith)

-- the degree 0, from the test of it
pub length_of_degree_zero : (r : Option ℕ) (a : List ℕ) → option_eq eqb r (Some 0) ≡ true
    → MatchOption r (a ≡ []) (λ d. suc d ≡ length a) → length a ≡ 1
length_of_degree_zero None a e f = absurd (let no : false ≡ true = e in cc)
length_of_degree_zero (Some d) a e f = omega (arith, eqb-true d 0 e)

-- the last coefficient is not 0
pub lead-ne-zero : (a : List ℕ) → IsTrimmed 0 a → (a ≡ [] → ⊥) → get_or a (degree a) 0 ≡ 0 → ⊥
lead-ne-zero [] t n e = n refl
lead-ne-zero (x ∷ xs) t n e = last-ne-zero 0 x xs t e
