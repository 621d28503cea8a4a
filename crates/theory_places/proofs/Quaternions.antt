-- Quaternions with i² = p and j² = b are ramified where p is a uniformizer and b is no square modulo p.
use Rattle.std.specs.Prelude.{◌≡◌, ◌≢◌, ℕ, zero, suc, ◌<◌, IsTrue, [], ◌∷◌, ◌⊎◌}
use Rattle.std.proofs.Common.{refl, sym, ◌∙◌, ap, subst, arith, inl, inr, ⊎_elim}
use Rattle.theory_rings.specs.Ring.{FieldOn}
use Rattle.theory_rings.proofs.Rings.RingLaws.{mul-zero}
use Rattle.theory_rings.proofs.Rings.Solver.{var, v0, v1, v2, v3, v4, nil, unit, ◌⊞◌, ◌⊠◌, minus, by_sorted, ring2}
use Rattle.theory_rings.proofs.Rings.Solver.{ring3}
use Rattle.theory_spaces.specs.Module.{AlgebraOn}
use Rattle.theory_spaces.specs.Valuation.{ValuationOn}
use Rattle.theory_orders.specs.Uniformizer.{UniformizerOn}
use Rattle.theory_orders.specs.Orders.{IsOrder, IsIdeal, Around, SumOf, Generated, Multiple, Power, Product}
use Rattle.theory_orders.specs.Orders.{SimpleByElements, Within}
use Rattle.theory_orders.specs.Lattices.{Lattice}
use Rattle.theory_orders.specs.Ramified.{IsRamified}
use Rattle.theory_orders.proofs.Lattices.SumsOf.{SumOf_in, SumOf_add, SumOf_one}
use Rattle.theory_orders.proofs.Lattices.Multiples.{Multiple-add}
use Rattle.theory_orders.proofs.Ideals.SimpleQuotients.{radical_of_simple, simple_by_tests}
use Rattle.theory_places.proofs.QuaternionAlgebra.{E, times_ex, add_ex, one_ex, x_ex}
use Rattle.theory_places.proofs.QuaternionAlgebra.{Quaternion, times, quaternions, order_vectors}
use Rattle.theory_places.proofs.QuaternionAlgebra.{radical_vectors, fourth, fourth_in, ap₄}

-- x and y are multiples of p where x² − b·y² is
abbrev pub NoSquareModulo : {K : Type 0} (F : FieldOn K) → ValuationOn F → K → K → Type 0
NoSquareModulo {K} F Z q b = (x y : K) → IsTrue (Z.integral x) → IsTrue (Z.integral y)
    → IsTrue (Z.integral (F.◌⊗◌ q (F.◌⊕◌ (F.◌⊗◌ x x) (F.neg (F.◌⊗◌ b (F.◌⊗◌ y y))))))
    → IsTrue (Z.integral (F.◌⊗◌ q x)) × IsTrue (Z.integral (F.◌⊗◌ q y))

module _ {K : Type 0} (F : FieldOn K) (Z : ValuationOn F) (p q : K) (U : UniformizerOn F Z p q)
    (strict : IsTrue (Z.integral q) → ⊥)
    (b : K) (b_in : IsTrue (Z.integral b)) (no_square : NoSquareModulo F Z q b) where
  infixl 65 ◌⊕◌
  infixl 70 ◌⊗◌
  open F use {◌⊕◌, ◌⊗◌, neg}

  abbrev W : Type 0
  W = Quaternion F p b

  abbrev A : AlgebraOn F.ring W
  A = quaternions F p b

  abbrev mul : W → W → W
  mul = times F p b

  abbrev os : ℕ → W
  os = order_vectors F p b

  abbrev js : ℕ → W
  js = radical_vectors F p b

  abbrev In : K → Type 0
  In a = IsTrue (Z.integral a)

  abbrev L : W → Type 0
  L = Lattice F Z A 4 os

  abbrev J : W → Type 0
  J = Lattice F Z A 4 js

  abbrev four' : K → K → K → K → W
  four' a b c d = (a, b, c, d)

  qp : (a : K) → q ⊗ (p ⊗ a) ≡ a
  qp a = sym (F.mul_assoc q p a) ∙ ap (λ x. x ⊗ a) (F.mul_comm q p ∙ U.pq) ∙ F.one-mul a

  pq : (a : K) → p ⊗ (q ⊗ a) ≡ a
  pq a = sym (F.mul_assoc p q a) ∙ ap (λ x. x ⊗ a) U.pq ∙ F.one-mul a

  q-zero : q ⊗ F.zero ≡ F.zero
  q-zero = mul-zero F.ring q

  zero_q : In (q ⊗ F.zero)
  zero_q = subst In (sym q-zero) Z.zero_in

  abbrev combination : (ℕ → W) → K → K → K → K → W
  combination v c0 c1 c2 c3 =
      A.◌⊕◌ (A.◌⊕◌ (A.◌⊕◌ (A.◌⊕◌ A.zero (A.◌•◌ c0 (v 0))) (A.◌•◌ c1 (v 1))) (A.◌•◌ c2 (v 2))) (A.◌•◌ c3 (v 3))

  os-comb : (c0 c1 c2 c3 : K) → combination os c0 c1 c2 c3 ≡ four' c0 c1 c2 c3
  os-comb c0 c1 c2 c3 =
      let e = c0 ∷ c1 ∷ c2 ∷ c3 ∷ [] in
      ap₄ four'
      (by_sorted F.cring e (nil ⊞ v0 ⊠ unit ⊞ v1 ⊠ nil ⊞ v2 ⊠ nil ⊞ v3 ⊠ nil) v0 refl)
      (by_sorted F.cring e (nil ⊞ v0 ⊠ nil ⊞ v1 ⊠ unit ⊞ v2 ⊠ nil ⊞ v3 ⊠ nil) v1 refl)
      (by_sorted F.cring e (nil ⊞ v0 ⊠ nil ⊞ v1 ⊠ nil ⊞ v2 ⊠ unit ⊞ v3 ⊠ nil) v2 refl)
      (by_sorted F.cring e (nil ⊞ v0 ⊠ nil ⊞ v1 ⊠ nil ⊞ v2 ⊠ nil ⊞ v3 ⊠ unit) v3 refl)

  js-comb : (c0 c1 c2 c3 : K) → combination js c0 c1 c2 c3 ≡ four' (p ⊗ c0) c1 (p ⊗ c2) c3
  js-comb c0 c1 c2 c3 =
      let e = c0 ∷ c1 ∷ c2 ∷ c3 ∷ p ∷ [] in
      ap₄ four'
      (by_sorted F.cring e (nil ⊞ v0 ⊠ v4 ⊞ v1 ⊠ nil ⊞ v2 ⊠ nil ⊞ v3 ⊠ nil) (v4 ⊠ v0) refl)
      (by_sorted F.cring e (nil ⊞ v0 ⊠ nil ⊞ v1 ⊠ unit ⊞ v2 ⊠ nil ⊞ v3 ⊠ nil) v1 refl)
      (by_sorted F.cring e (nil ⊞ v0 ⊠ nil ⊞ v1 ⊠ nil ⊞ v2 ⊠ v4 ⊞ v3 ⊠ nil) (v4 ⊠ v2) refl)
      (by_sorted F.cring e (nil ⊞ v0 ⊠ nil ⊞ v1 ⊠ nil ⊞ v2 ⊠ nil ⊞ v3 ⊠ unit) v3 refl)

  abbrev Whole : W → Type 0
  Whole x = In x.0 × In x.1 × In x.2 × In x.3

  abbrev Low : W → Type 0
  Low x = In (q ⊗ x.0) × In x.1 × In (q ⊗ x.2) × In x.3

  L-in : (x : W) → Whole x → L x
  L-in x h = record {
    weights = fourth x.0 x.1 x.2 x.3;
    passes = λ i _. fourth_in In x.0 x.1 x.2 x.3 h.0 h.1 h.2 h.3 i;
    combines = sym (os-comb x.0 x.1 x.2 x.3);
  }

  in-L : (x : W) → L x → Whole x
  in-L x s =
      let e = s.combines ∙ os-comb (s.weights 0) (s.weights 1) (s.weights 2) (s.weights 3) in (
        subst In (sym (ap (λ (z : W). z.0) e)) (s.passes 0 (omega arith)),
        subst In (sym (ap (λ (z : W). z.1) e)) (s.passes 1 (omega arith)),
        subst In (sym (ap (λ (z : W). z.2) e)) (s.passes 2 (omega arith)),
        subst In (sym (ap (λ (z : W). z.3) e)) (s.passes 3 (omega arith)),
      )

  J-in : (x : W) → Low x → J x
  J-in x h = record {
    weights = fourth (q ⊗ x.0) x.1 (q ⊗ x.2) x.3;
    passes = λ i _. fourth_in In (q ⊗ x.0) x.1 (q ⊗ x.2) x.3 h.0 h.1 h.2 h.3 i;
    combines = sym (js-comb (q ⊗ x.0) x.1 (q ⊗ x.2) x.3 ∙ ap₄ four' (pq x.0) refl (pq x.2) refl);
  }

  in-J : (x : W) → J x → Low x
  in-J x s =
      let e = s.combines ∙ js-comb (s.weights 0) (s.weights 1) (s.weights 2) (s.weights 3) in (
        subst In (sym (ap (λ (z : W). q ⊗ z.0) e ∙ qp (s.weights 0))) (s.passes 0 (omega arith)),
        subst In (sym (ap (λ (z : W). z.1) e)) (s.passes 1 (omega arith)),
        subst In (sym (ap (λ (z : W). q ⊗ z.2) e ∙ qp (s.weights 2))) (s.passes 2 (omega arith)),
        subst In (sym (ap (λ (z : W). z.3) e)) (s.passes 3 (omega arith)),
      )

  up : (a : K) → In (q ⊗ a) → In a
  up a h = subst In (pq a) (Z.mul_in p (q ⊗ a) U.p_in h)

  whole : (x : W) → Low x → Whole x
  whole x h = (up x.0 h.0, h.1, up x.2 h.2, h.3)

  J-L : (x : W) → J x → L x
  J-L x h = L-in x (whole x (in-J x h))

  -- sums of four integral terms, the last with a sign
  sum4 : (a b c d : K) → In a → In b → In c → In d → In (a ⊕ b ⊕ c ⊕ neg d)
  sum4 a b c d ha hb hc hd = Z.add_in (a ⊕ b ⊕ c) (neg d) (Z.add_in (a ⊕ b) c (Z.add_in a b ha hb) hc) (Z.neg_in d hd)

  m2 : (a b : K) → In a → In b → In (a ⊗ b)
  m2 = Z.mul_in

  times_whole : (x y : W) → Whole x → Whole y → Whole (mul x y)
  times_whole x y h g = (
    sum4 (x.0 ⊗ y.0) (p ⊗ (x.1 ⊗ y.1)) (b ⊗ (x.2 ⊗ y.2)) (p ⊗ (b ⊗ (x.3 ⊗ y.3)))
        (m2 x.0 y.0 h.0 g.0) (m2 p (x.1 ⊗ y.1) U.p_in (m2 x.1 y.1 h.1 g.1)) (m2 b (x.2 ⊗ y.2) b_in (m2 x.2 y.2 h.2 g.2))
        (m2 p (b ⊗ (x.3 ⊗ y.3)) U.p_in (m2 b (x.3 ⊗ y.3) b_in (m2 x.3 y.3 h.3 g.3))),
    sum4 (x.0 ⊗ y.1) (x.1 ⊗ y.0) (b ⊗ (x.3 ⊗ y.2)) (b ⊗ (x.2 ⊗ y.3))
        (m2 x.0 y.1 h.0 g.1) (m2 x.1 y.0 h.1 g.0) (m2 b (x.3 ⊗ y.2) b_in (m2 x.3 y.2 h.3 g.2))
        (m2 b (x.2 ⊗ y.3) b_in (m2 x.2 y.3 h.2 g.3)),
    sum4 (x.0 ⊗ y.2) (x.2 ⊗ y.0) (p ⊗ (x.1 ⊗ y.3)) (p ⊗ (x.3 ⊗ y.1))
        (m2 x.0 y.2 h.0 g.2) (m2 x.2 y.0 h.2 g.0) (m2 p (x.1 ⊗ y.3) U.p_in (m2 x.1 y.3 h.1 g.3))
        (m2 p (x.3 ⊗ y.1) U.p_in (m2 x.3 y.1 h.3 g.1)),
    sum4 (x.0 ⊗ y.3) (x.3 ⊗ y.0) (x.1 ⊗ y.2) (x.2 ⊗ y.1)
        (m2 x.0 y.3 h.0 g.3) (m2 x.3 y.0 h.3 g.0) (m2 x.1 y.2 h.1 g.2) (m2 x.2 y.1 h.2 g.1),
  )

  order : IsOrder A L
  order = record {
    one_in = L-in A.one (Z.one_in, Z.zero_in, Z.zero_in, Z.zero_in);
    zero_in = L-in A.zero (Z.zero_in, Z.zero_in, Z.zero_in, Z.zero_in);
    add_in = λ x y h g. let a = in-L x h in let c = in-L y g in L-in (A.◌⊕◌ x y) (
      Z.add_in x.0 y.0 a.0 c.0,
      Z.add_in x.1 y.1 a.1 c.1,
      Z.add_in x.2 y.2 a.2 c.2,
      Z.add_in x.3 y.3 a.3 c.3,
    );
    neg_in = λ x h. let a = in-L x h in
        L-in (A.neg x) (Z.neg_in x.0 a.0, Z.neg_in x.1 a.1, Z.neg_in x.2 a.2, Z.neg_in x.3 a.3);
    mul_in = λ x y h g. L-in (mul x y) (times_whole x y (in-L x h) (in-L y g));
  }

  -- q times a sum whose terms with the factor p lose it
  lower_sum : (a b c d a' b' c' d' : K) → q ⊗ a ≡ a' → q ⊗ b ≡ b' → q ⊗ c ≡ c' → q ⊗ d ≡ d'
      → In a' → In b' → In c' → In d' → In (q ⊗ (a ⊕ b ⊕ c ⊕ neg d))
  lower_sum a b c d a' b' c' d' ea eb ec ed ha hb hc hd =
      subst In (sym (by_sorted F.cring (q ∷ a ∷ b ∷ c ∷ d ∷ []) (v0 ⊠ (v1 ⊞ v2 ⊞ v3 ⊞ minus v4))
      (v0 ⊠ v1 ⊞ v0 ⊠ v2 ⊞ v0 ⊠ v3 ⊞ minus (v0 ⊠ v4)) refl
      ∙ ap₄ (λ a b c d. a ⊕ b ⊕ c ⊕ neg d) ea eb ec ed)) (sum4 a' b' c' d' ha hb hc hd)

  -- q past a factor
  past : (a c : K) → q ⊗ (a ⊗ c) ≡ a ⊗ (q ⊗ c)
  past a c = ring3 F.cring (λ q a c. (q ⊠ (a ⊠ c), a ⊠ (q ⊠ c))) refl q a c

  past2 : (a c : K) → q ⊗ (a ⊗ c) ≡ (q ⊗ a) ⊗ c
  past2 a c = sym (F.mul_assoc q a c)

  left : (a x : W) → Whole a → Low x → Low (mul a x)
  left a x h g =
      let k = whole x g in
      let t = times_whole a x h k in (
        lower_sum (a.0 ⊗ x.0) (p ⊗ (a.1 ⊗ x.1)) (b ⊗ (a.2 ⊗ x.2)) (p ⊗ (b ⊗ (a.3 ⊗ x.3)))
            (a.0 ⊗ (q ⊗ x.0)) (a.1 ⊗ x.1) (b ⊗ (a.2 ⊗ (q ⊗ x.2))) (b ⊗ (a.3 ⊗ x.3))
            (past a.0 x.0) (qp (a.1 ⊗ x.1)) (past b (a.2 ⊗ x.2) ∙ ap (λ t. b ⊗ t) (past a.2 x.2)) (qp (b ⊗ (a.3 ⊗ x.3)))
            (m2 a.0 (q ⊗ x.0) h.0 g.0) (m2 a.1 x.1 h.1 g.1) (m2 b (a.2 ⊗ (q ⊗ x.2)) b_in (m2 a.2 (q ⊗ x.2) h.2 g.2))
            (m2 b (a.3 ⊗ x.3) b_in (m2 a.3 x.3 h.3 g.3)),
        t.1,
        lower_sum (a.0 ⊗ x.2) (a.2 ⊗ x.0) (p ⊗ (a.1 ⊗ x.3)) (p ⊗ (a.3 ⊗ x.1))
            (a.0 ⊗ (q ⊗ x.2)) (a.2 ⊗ (q ⊗ x.0)) (a.1 ⊗ x.3) (a.3 ⊗ x.1)
            (past a.0 x.2) (past a.2 x.0) (qp (a.1 ⊗ x.3)) (qp (a.3 ⊗ x.1))
            (m2 a.0 (q ⊗ x.2) h.0 g.2) (m2 a.2 (q ⊗ x.0) h.2 g.0) (m2 a.1 x.3 h.1 g.3) (m2 a.3 x.1 h.3 g.1),
        t.3,
      )

  right : (x a : W) → Low x → Whole a → Low (mul x a)
  right x a g h =
      let k = whole x g in
      let t = times_whole x a k h in (
        lower_sum (x.0 ⊗ a.0) (p ⊗ (x.1 ⊗ a.1)) (b ⊗ (x.2 ⊗ a.2)) (p ⊗ (b ⊗ (x.3 ⊗ a.3)))
            ((q ⊗ x.0) ⊗ a.0) (x.1 ⊗ a.1) (b ⊗ ((q ⊗ x.2) ⊗ a.2)) (b ⊗ (x.3 ⊗ a.3))
            (past2 x.0 a.0) (qp (x.1 ⊗ a.1)) (past b (x.2 ⊗ a.2) ∙ ap (λ t. b ⊗ t) (past2 x.2 a.2))
            (qp (b ⊗ (x.3 ⊗ a.3)))
            (m2 (q ⊗ x.0) a.0 g.0 h.0) (m2 x.1 a.1 g.1 h.1) (m2 b ((q ⊗ x.2) ⊗ a.2) b_in (m2 (q ⊗ x.2) a.2 g.2 h.2))
            (m2 b (x.3 ⊗ a.3) b_in (m2 x.3 a.3 g.3 h.3)),
        t.1,
        lower_sum (x.0 ⊗ a.2) (x.2 ⊗ a.0) (p ⊗ (x.1 ⊗ a.3)) (p ⊗ (x.3 ⊗ a.1))
            ((q ⊗ x.0) ⊗ a.2) ((q ⊗ x.2) ⊗ a.0) (x.1 ⊗ a.3) (x.3 ⊗ a.1)
            (past2 x.0 a.2) (past2 x.2 a.0) (qp (x.1 ⊗ a.3)) (qp (x.3 ⊗ a.1))
            (m2 (q ⊗ x.0) a.2 g.0 h.2) (m2 (q ⊗ x.2) a.0 g.2 h.0) (m2 x.1 a.3 g.1 h.3) (m2 x.3 a.1 g.3 h.1),
        t.3,
      )

  ideal : IsIdeal A L J
  ideal = record {
    inside = J-L;
    zero_in = J-in A.zero (zero_q, Z.zero_in, zero_q, Z.zero_in);
    add_in = λ x y h g. let a = in-J x h in let c = in-J y g in J-in (A.◌⊕◌ x y) (
      subst In (sym (F.mul-add q x.0 y.0)) (Z.add_in (q ⊗ x.0) (q ⊗ y.0) a.0 c.0),
      Z.add_in x.1 y.1 a.1 c.1,
      subst In (sym (F.mul-add q x.2 y.2)) (Z.add_in (q ⊗ x.2) (q ⊗ y.2) a.2 c.2),
      Z.add_in x.3 y.3 a.3 c.3,
    );
    left = λ a x h g. J-in (mul a x) (left a x (in-L a h) (in-J x g));
    right = λ a x h g. J-in (mul x a) (right x a (in-J x g) (in-L a h));
  }

  over : Within (Multiple A p L) J
  over x m =
      let i = in-L m.0 m.1 in
      subst J (sym m.2) (J-in (A.◌•◌ p m.0) (
        subst In (sym (qp m.0.0)) i.0,
        m2 p m.0.1 U.p_in i.1,
        subst In (sym (qp m.0.2)) i.2,
        m2 p m.0.3 U.p_in i.3,
      ))

  -- what q makes whole is a multiple of p
  multiple_of : (x : W) → In (q ⊗ x.0) → In (q ⊗ x.1) → In (q ⊗ x.2) → In (q ⊗ x.3) → Multiple A p L x
  multiple_of x h0 h1 h2 h3 = (
    four' (q ⊗ x.0) (q ⊗ x.1) (q ⊗ x.2) (q ⊗ x.3),
    L-in (four' (q ⊗ x.0) (q ⊗ x.1) (q ⊗ x.2) (q ⊗ x.3)) (h0, h1, h2, h3),
    sym (ap₄ four' (pq x.0) (pq x.1) (pq x.2) (pq x.3)),
  )

  square : (x y : W) → Low x → Low y → Multiple A p L (mul x y)
  square x y h g =
      let k = whole y g in
      let l = whole x h in
      let r = right x y h k in
      multiple_of (mul x y) r.0
      (lower_sum (x.0 ⊗ y.1) (x.1 ⊗ y.0) (b ⊗ (x.3 ⊗ y.2)) (b ⊗ (x.2 ⊗ y.3))
      ((q ⊗ x.0) ⊗ y.1) (x.1 ⊗ (q ⊗ y.0)) (b ⊗ (x.3 ⊗ (q ⊗ y.2))) (b ⊗ ((q ⊗ x.2) ⊗ y.3))
      (past2 x.0 y.1) (past x.1 y.0) (past b (x.3 ⊗ y.2) ∙ ap (λ t. b ⊗ t) (past x.3 y.2))
      (past b (x.2 ⊗ y.3) ∙ ap (λ t. b ⊗ t) (past2 x.2 y.3))
      (m2 (q ⊗ x.0) y.1 h.0 g.1) (m2 x.1 (q ⊗ y.0) h.1 g.0) (m2 b (x.3 ⊗ (q ⊗ y.2)) b_in (m2 x.3 (q ⊗ y.2) h.3 g.2))
      (m2 b ((q ⊗ x.2) ⊗ y.3) b_in (m2 (q ⊗ x.2) y.3 h.2 g.3)))
      r.2
      (lower_sum (x.0 ⊗ y.3) (x.3 ⊗ y.0) (x.1 ⊗ y.2) (x.2 ⊗ y.1)
      ((q ⊗ x.0) ⊗ y.3) (x.3 ⊗ (q ⊗ y.0)) (x.1 ⊗ (q ⊗ y.2)) ((q ⊗ x.2) ⊗ y.1)
      (past2 x.0 y.3) (past x.3 y.0) (past x.1 y.2) (past2 x.2 y.1)
      (m2 (q ⊗ x.0) y.3 h.0 g.3) (m2 x.3 (q ⊗ y.0) h.3 g.0) (m2 x.1 (q ⊗ y.2) h.1 g.2) (m2 (q ⊗ x.2) y.1 h.2 g.1))

  falls : Within (Power A J 1) (Multiple A p L)
  falls = SumOf_in A (Product A J J) (Multiple A p L)
      (multiple_of A.zero zero_q zero_q zero_q zero_q) (Multiple-add A p L order)
      (λ x w. subst (Multiple A p L) (sym w.4) (square w.0 w.1 (in-J w.0 w.2) (in-J w.1 w.3)))

  proper : J A.one → ⊥
  proper h = strict (subst In (F.mul-one q) (in-J A.one h).0)

  -- the norm of the part in 1 and j
  abbrev norm : W → K
  norm a = a.0 ⊗ a.0 ⊕ neg (b ⊗ (a.2 ⊗ a.2))

  norm_in : (a : W) → Whole a → In (norm a)
  norm_in a h = Z.add_in (a.0 ⊗ a.0) (neg (b ⊗ (a.2 ⊗ a.2))) (m2 a.0 a.0 h.0 h.0)
      (Z.neg_in (b ⊗ (a.2 ⊗ a.2)) (m2 b (a.2 ⊗ a.2) b_in (m2 a.2 a.2 h.2 h.2)))

  sum_one : (a : W) (u : K) → u ≡ F.inv (norm a) → norm a ≢ F.zero
      → A.◌⊕◌ (mul (mul (four' (u ⊗ a.0) F.zero (neg (u ⊗ a.2)) F.zero) a) A.one)
      (four' F.zero (neg (u ⊗ a.0 ⊗ a.1 ⊕ b ⊗ (u ⊗ a.2 ⊗ a.3))) F.zero (neg (u ⊗ a.0 ⊗ a.3 ⊕ u ⊗ a.2 ⊗ a.1))) ≡ A.one
  sum_one a u s n =
      let e = a.0 ∷ a.1 ∷ a.2 ∷ a.3 ∷ u ∷ F.zero ∷ F.zero ∷ F.zero ∷ F.zero ∷ F.zero ∷ F.zero ∷ F.zero ∷ p ∷ b ∷ [] in
      let a_ex : E = (v0, v1, v2, v3) in
      let l_ex : E = (v4 ⊠ v0, nil, minus (v4 ⊠ v2), nil) in
      let y_ex : E = (nil, minus (v4 ⊠ v0 ⊠ v1 ⊞ var 13 ⊠ (v4 ⊠ v2 ⊠ v3)), nil, minus (v4 ⊠ v0 ⊠ v3 ⊞ v4 ⊠ v2 ⊠ v1)) in
      let t = add_ex (times_ex (times_ex l_ex a_ex) one_ex) y_ex in
      ap₄ four'
      (by_sorted F.cring e t.0 (v4 ⊠ (v0 ⊠ v0 ⊞ minus (var 13 ⊠ (v2 ⊠ v2)))) refl
      ∙ ap (λ t. t ⊗ norm a) s ∙ F.inv-mul (norm a) n)
      (by_sorted F.cring e t.1 nil refl) (by_sorted F.cring e t.2 nil refl) (by_sorted F.cring e t.3 nil refl)

  -- 1 is l·a and a member of J
  generated : (a : W) → Whole a → norm a ≢ F.zero → In (F.inv (norm a)) → Generated A L J a A.one
  generated a h n hu =
      let u = F.inv (norm a) in
      let S : W → Type 0 = λ x. Around A L a x ⊎ J x in
      let l : W = (u ⊗ a.0, F.zero, neg (u ⊗ a.2), F.zero) in
      let hl : L l = L-in l (m2 u a.0 hu h.0, Z.zero_in, Z.neg_in (u ⊗ a.2) (m2 u a.2 hu h.2), Z.zero_in) in
      let x : W = mul (mul l a) A.one in
      let x1 = u ⊗ a.0 ⊗ a.1 ⊕ b ⊗ (u ⊗ a.2 ⊗ a.3) in
      let x3 = u ⊗ a.0 ⊗ a.3 ⊕ u ⊗ a.2 ⊗ a.1 in
      let y : W = (F.zero, neg x1, F.zero, neg x3) in
      let h1 : In x1 = Z.add_in (u ⊗ a.0 ⊗ a.1) (b ⊗ (u ⊗ a.2 ⊗ a.3)) (m2 (u ⊗ a.0) a.1 (m2 u a.0 hu h.0) h.1)
      (m2 b (u ⊗ a.2 ⊗ a.3) b_in (m2 (u ⊗ a.2) a.3 (m2 u a.2 hu h.2) h.3)) in
      let h3 : In x3 = Z.add_in (u ⊗ a.0 ⊗ a.3) (u ⊗ a.2 ⊗ a.1) (m2 (u ⊗ a.0) a.3 (m2 u a.0 hu h.0) h.3)
      (m2 (u ⊗ a.2) a.1 (m2 u a.2 hu h.2) h.1) in
      let hy : J y = J-in y (zero_q, Z.neg_in x1 h1, zero_q, Z.neg_in x3 h3) in
      let e : A.◌⊕◌ x y ≡ A.one = sum_one a u refl n in
      subst (SumOf A S) e (SumOf_add A S x y (SumOf_one A S x (inl (l, A.one, hl, order.one_in, refl)))
      (SumOf_one A S y (inr hy)))

  simple : (a : W) → L a → J a ⊎ Generated A L J a A.one
  simple a l =
      let h = in-L a l in
      ⊎_elim
      (λ (m : In (q ⊗ norm a)). let r = no_square a.0 a.2 h.0 h.2 m in inl (J-in a (r.0, h.1, r.1, h.3)))
      (λ (w : (norm a ≡ F.zero → ⊥) × In (F.inv (norm a))). inr (generated a h w.0 w.1))
      (U.multiple_or_unit (norm a) (norm_in a h))

  -- the element i
  root : W
  root = (F.zero, F.one, F.zero, F.zero)

  root-in : J root
  unfolding root
  root-in = J-in root (zero_q, Z.one_in, zero_q, Z.zero_in)

  times_root : (a : W) → mul a root ≡ four' (p ⊗ a.1) a.0 (neg (p ⊗ a.3)) (neg a.2)
  unfolding root
  times_root a =
      let e = a.0 ∷ a.1 ∷ a.2 ∷ a.3 ∷ p ∷ p ∷ p ∷ p ∷ p ∷ p ∷ p ∷ p ∷ p ∷ b ∷ [] in
      let t = times_ex x_ex (nil, unit, nil, nil) in
      ap₄ four' (by_sorted F.cring e t.0 (var 12 ⊠ v1) refl) (by_sorted F.cring e t.1 v0 refl)
      (by_sorted F.cring e t.2 (minus (var 12 ⊠ v3)) refl) (by_sorted F.cring e t.3 (minus v2) refl)

  neg_back : (a : K) → In (neg a) → In a
  neg_back a h = subst In (ring2 F.cring (λ a b. (minus (minus a), a)) refl a a) (Z.neg_in (neg a) h)

  left_order : (a : W) → ((x : W) → J x → J (mul a x)) → L a
  left_order a h =
      let i = in-J (four' (p ⊗ a.1) a.0 (neg (p ⊗ a.3)) (neg a.2)) (subst J (times_root a) (h root root-in)) in
      L-in a (
        i.1,
        subst In (qp a.1) i.0,
        neg_back a.2 i.3,
        neg_back a.3 (subst In
            (by_sorted F.cring (q ∷ p ∷ a.3 ∷ []) (v0 ⊠ minus (v1 ⊠ v2)) (minus (v0 ⊠ (v1 ⊠ v2))) refl
            ∙ ap neg (qp a.3)) i.2),
      )

  not_multiple : Within J (Multiple A p L) → ⊥
  unfolding root
  not_multiple h =
      let m = h root root-in in
      let e : q ≡ m.0.1 = sym (F.mul-one q) ∙ ap (λ (z : W). q ⊗ z.1) m.2 ∙ qp m.0.1 in
      strict (subst In (sym e) (in-L m.0 m.1).1)

  by_elements : SimpleByElements A L J
  by_elements = record { proper = proper; generates = simple }

  all_zero : (c : ℕ → K) → c 0 ≡ F.zero → c 1 ≡ F.zero → c 2 ≡ F.zero → c 3 ≡ F.zero → (i : ℕ) → i < 4 → c i ≡ F.zero
  all_zero c e0 e1 e2 e3 zero l = e0
  all_zero c e0 e1 e2 e3 (suc zero) l = e1
  all_zero c e0 e1 e2 e3 (suc (suc zero)) l = e2
  all_zero c e0 e1 e2 e3 (suc (suc (suc zero))) l = e3
  all_zero c e0 e1 e2 e3 (suc (suc (suc (suc i)))) l = absurd (omega arith)

  lost : (a : K) → p ⊗ a ≡ F.zero → a ≡ F.zero
  lost a e = sym (qp a) ∙ ap (λ t. q ⊗ t) e ∙ q-zero

  pub ramified_quaternions : IsRamified F Z p A 4 os js
  ramified_quaternions = record {
    order = record {
      order = order;
      independent = record {
        only_zero = λ c h. let e = sym (os-comb (c 0) (c 1) (c 2) (c 3)) ∙ h in
            all_zero c (ap (λ (z : W). z.0) e) (ap (λ (z : W). z.1) e) (ap (λ (z : W). z.2) e) (ap (λ (z : W). z.3) e);
      };
    };
    independent = record {
      only_zero = λ c h. let e = sym (js-comb (c 0) (c 1) (c 2) (c 3)) ∙ h in
          all_zero c (lost (c 0) (ap (λ (z : W). z.0) e)) (ap (λ (z : W). z.1) e) (lost (c 2) (ap (λ (z : W). z.2) e))
          (ap (λ (z : W). z.3) e);
    };
    radical = radical_of_simple A L J order by_elements p ideal over 1 falls;
    simple = simple_by_tests A L J order by_elements;
    left_order = (left_order, λ a l x h. J-in (mul a x) (left a x (in-L a l) (in-J x h)));
    not_multiple = not_multiple;
  }
