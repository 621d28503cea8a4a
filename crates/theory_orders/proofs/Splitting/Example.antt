-- A ramified place: in K with a square root of p, the integral pairs and the multiples of the root.
use Rattle.std.specs.Prelude.{◌≡◌, ℕ, zero, suc, ◌<◌, IsTrue, List, [], ◌∷◌, ◌⊎◌}
use Rattle.std.proofs.Common.{refl, sym, ◌∙◌, ap, ap₂, subst, arith, inl, inr, ⊎_elim}
use Rattle.theory_rings.specs.Ring.{FieldOn}
use Rattle.theory_rings.proofs.Rings.RingLaws.{mul-zero}
use Rattle.theory_rings.proofs.Rings.Solver.{Ex, var, v0, v1, v2, v3, v4, nil, unit, ◌⊞◌, ◌⊠◌, minus, by_sorted}
use Rattle.theory_spaces.specs.Module.{AlgebraOn}
use Rattle.theory_spaces.specs.Valuation.{ValuationOn}
use Rattle.theory_orders.specs.Uniformizer.{UniformizerOn}
use Rattle.theory_orders.specs.Orders.{IsOrder, IsIdeal, Around, SumOf, Generated, Multiple, Power, Product}
use Rattle.theory_orders.specs.Orders.{SimpleByElements, Within}
use Rattle.theory_orders.specs.Lattices.{Lattice}
use Rattle.theory_orders.specs.Ramified.{IsRamified}
use Rattle.theory_orders.proofs.Lattices.SumsOf.{SumOf_in, SumOf_add, SumOf_one}
use Rattle.theory_orders.proofs.Lattices.Multiples.{Multiple-add}
use Rattle.theory_orders.proofs.Ideals.SimpleQuotients.{radical_of_simple, simple_by_tests}

module _ {K : Type 0} (F : FieldOn K) (Z : ValuationOn F) (p q : K) (U : UniformizerOn F Z p q)
    (strict : IsTrue (Z.integral q) → ⊥) where
  infixl 65 ◌⊕◌
  infixl 70 ◌⊗◌
  open F use {◌⊕◌, ◌⊗◌, neg}

  abbrev V : Type 0
  V = K × K

  abbrev pair : K → K → V
  pair a b = (a, b)

  abbrev times : V → V → V
  times x y = (x.0 ⊗ y.0 ⊕ p ⊗ (x.1 ⊗ y.1), x.0 ⊗ y.1 ⊕ x.1 ⊗ y.0)

  abbrev env : V → V → V → K → List K
  env x y z c = x.0 ∷ (x.1 ∷ (y.0 ∷ (y.1 ∷ (z.0 ∷ (z.1 ∷ (p ∷ (c ∷ [])))))))

  abbrev E : Type 0
  E = Ex × Ex

  abbrev ex : Ex → Ex → E
  ex a b = (a, b)

  abbrev mul : E → E → E
  mul x y = (x.0 ⊠ y.0 ⊞ var 6 ⊠ (x.1 ⊠ y.1), x.0 ⊠ y.1 ⊞ x.1 ⊠ y.0)

  abbrev add : E → E → E
  add x y = (x.0 ⊞ y.0, x.1 ⊞ y.1)

  abbrev by : Ex → E → E
  by c x = (c ⊠ x.0, c ⊠ x.1)

  abbrev X : E
  X = (v0, v1)

  abbrev Y : E
  Y = (v2, v3)

  abbrev W : E
  W = (v4, var 5)

  abbrev C : Ex
  C = var 7

  abbrev pub root_algebra : AlgebraOn F.ring V
  root_algebra = record {
    ring = record {
      additive = record {
        monoid = record {
          zero = (F.zero, F.zero);
          ◌⊕◌ = λ x y. (x.0 ⊕ y.0, x.1 ⊕ y.1);
          add_assoc = λ x y z. ap₂ pair (F.add_assoc x.0 y.0 z.0) (F.add_assoc x.1 y.1 z.1);
          add_comm = λ x y. ap₂ pair (F.add_comm x.0 y.0) (F.add_comm x.1 y.1);
          zero-add = λ x. ap₂ pair (F.zero-add x.0) (F.zero-add x.1);
        };
        neg = λ x. (neg x.0, neg x.1);
        neg-add = λ x. ap₂ pair (F.neg-add x.0) (F.neg-add x.1);
      };
      one = (F.one, F.zero);
      ◌⊗◌ = times;
      mul_assoc = λ x y z. ap₂ pair (by_sorted F.cring (env x y z p) (mul (mul X Y) W).0 (mul X (mul Y W)).0 refl)
          (by_sorted F.cring (env x y z p) (mul (mul X Y) W).1 (mul X (mul Y W)).1 refl);
      one-mul = λ x. ap₂ pair (by_sorted F.cring (env x x x p) (mul (ex unit nil) X).0 X.0 refl)
          (by_sorted F.cring (env x x x p) (mul (ex unit nil) X).1 X.1 refl);
      mul-one = λ x. ap₂ pair (by_sorted F.cring (env x x x p) (mul X (ex unit nil)).0 X.0 refl)
          (by_sorted F.cring (env x x x p) (mul X (ex unit nil)).1 X.1 refl);
      mul-add = λ x y z. ap₂ pair
          (by_sorted F.cring (env x y z p) (mul X (add Y W)).0 (add (mul X Y) (mul X W)).0 refl)
          (by_sorted F.cring (env x y z p) (mul X (add Y W)).1 (add (mul X Y) (mul X W)).1 refl);
      add-mul = λ x y z. ap₂ pair
          (by_sorted F.cring (env x y z p) (mul (add X Y) W).0 (add (mul X W) (mul Y W)).0 refl)
          (by_sorted F.cring (env x y z p) (mul (add X Y) W).1 (add (mul X W) (mul Y W)).1 refl);
    };
    scalars = record {
      ◌•◌ = λ c x. (c ⊗ x.0, c ⊗ x.1);
      scale-add = λ c x y. ap₂ pair (F.mul-add c x.0 y.0) (F.mul-add c x.1 y.1);
      add-scale = λ c d x. ap₂ pair (F.add-mul c d x.0) (F.add-mul c d x.1);
      mul-scale = λ c d x. ap₂ pair (F.mul_assoc c d x.0) (F.mul_assoc c d x.1);
      one-scale = λ x. ap₂ pair (F.one-mul x.0) (F.one-mul x.1);
    };
    scale-left = λ c x y.
        ap₂ pair (by_sorted F.cring (env x y x c) (mul (by C X) Y).0 (by C (mul X Y)).0 refl)
        (by_sorted F.cring (env x y x c) (mul (by C X) Y).1 (by C (mul X Y)).1 refl);
    scale-right = λ c x y.
        ap₂ pair (by_sorted F.cring (env x y x c) (mul X (by C Y)).0 (by C (mul X Y)).0 refl)
        (by_sorted F.cring (env x y x c) (mul X (by C Y)).1 (by C (mul X Y)).1 refl);
  }

  abbrev pub order_vectors : ℕ → V
  order_vectors zero = (F.one, F.zero)
  order_vectors (suc i) = (F.zero, F.one)

  abbrev pub radical_vectors : ℕ → V
  radical_vectors zero = (p, F.zero)
  radical_vectors (suc i) = (F.zero, F.one)

  abbrev A : AlgebraOn F.ring V
  A = root_algebra

  abbrev os : ℕ → V
  os = order_vectors

  abbrev js : ℕ → V
  js = radical_vectors

  abbrev In : K → Type 0
  In a = IsTrue (Z.integral a)

  abbrev L : V → Type 0
  L = Lattice F Z A 2 os

  abbrev J : V → Type 0
  J = Lattice F Z A 2 js

  os-comb : (a b : K) → A.◌⊕◌ (A.◌⊕◌ A.zero (A.◌•◌ a (F.one, F.zero))) (A.◌•◌ b (F.zero, F.one)) ≡ pair a b
  os-comb a b = ap₂ pair
      (by_sorted F.cring (a ∷ (b ∷ [])) (nil ⊞ v0 ⊠ unit ⊞ v1 ⊠ nil) (v0) refl)
      (by_sorted F.cring (a ∷ (b ∷ [])) (nil ⊞ v0 ⊠ nil ⊞ v1 ⊠ unit) (v1) refl)

  js-comb : (a b : K) → A.◌⊕◌ (A.◌⊕◌ A.zero (A.◌•◌ a (p, F.zero))) (A.◌•◌ b (F.zero, F.one)) ≡ pair (p ⊗ a) b
  js-comb a b = ap₂ pair
      (by_sorted F.cring (a ∷ (b ∷ (p ∷ []))) (nil ⊞ v0 ⊠ v2 ⊞ v1 ⊠ nil) (v2 ⊠ v0) refl)
      (by_sorted F.cring (a ∷ (b ∷ (p ∷ []))) (nil ⊞ v0 ⊠ nil ⊞ v1 ⊠ unit) (v1) refl)

  qp : (a : K) → q ⊗ (p ⊗ a) ≡ a
  qp a = sym (F.mul_assoc q p a) ∙ ap (λ x. x ⊗ a) (F.mul_comm q p ∙ U.pq) ∙ F.one-mul a

  pq : (a : K) → p ⊗ (q ⊗ a) ≡ a
  pq a = sym (F.mul_assoc p q a) ∙ ap (λ x. x ⊗ a) U.pq ∙ F.one-mul a

  L-in : (x : V) → In x.0 → In x.1 → L x
  L-in x a b = record {
    weights = elim [ zero ↦ x.0 | suc i ↦ x.1 ];
    passes = elim [ zero ↦ λ _. a | suc i ↦ λ _. b ];
    combines = sym (os-comb x.0 x.1);
  }

  in-L : (x : V) → L x → In x.0 × In x.1
  in-L x s =
      let e = s.combines ∙ os-comb (s.weights 0) (s.weights 1) in (
        subst In (sym (ap (λ (z : V). z.0) e)) (s.passes 0 (omega arith)),
        subst In (sym (ap (λ (z : V). z.1) e)) (s.passes 1 (omega arith)),
      )

  J-in : (x : V) → In (q ⊗ x.0) → In x.1 → J x
  J-in x a b = record {
    weights = elim [ zero ↦ q ⊗ x.0 | suc i ↦ x.1 ];
    passes = elim [ zero ↦ λ _. a | suc i ↦ λ _. b ];
    combines =
        sym (js-comb (q ⊗ x.0) x.1 ∙ ap (λ c. pair c x.1) (pq x.0));
  }

  in-J : (x : V) → J x → In (q ⊗ x.0) × In x.1
  in-J x s =
      let e = s.combines ∙ js-comb (s.weights 0) (s.weights 1) in (
        subst In (sym (ap (λ (z : V). q ⊗ z.0) e ∙ qp (s.weights 0))) (s.passes 0 (omega arith)),
        subst In (sym (ap (λ (z : V). z.1) e)) (s.passes 1 (omega arith)),
      )

  J-L : (x : V) → J x → L x
  J-L x h = let i = in-J x h in L-in x (subst In (pq x.0) (Z.mul_in p (q ⊗ x.0) U.p_in i.0)) i.1

  order : IsOrder A L
  order = record {
    one_in = L-in A.one Z.one_in Z.zero_in;
    zero_in = L-in A.zero Z.zero_in Z.zero_in;
    add_in = λ x y h g. let a = in-L x h in let b = in-L y g in
        L-in (A.◌⊕◌ x y) (Z.add_in x.0 y.0 a.0 b.0) (Z.add_in x.1 y.1 a.1 b.1);
    neg_in = λ x h. let a = in-L x h in L-in (A.neg x) (Z.neg_in x.0 a.0) (Z.neg_in x.1 a.1);
    mul_in = λ x y h g. let a = in-L x h in let b = in-L y g in
        L-in (times x y) (Z.add_in (x.0 ⊗ y.0) (p ⊗ (x.1 ⊗ y.1)) (Z.mul_in x.0 y.0 a.0 b.0)
        (Z.mul_in p (x.1 ⊗ y.1) U.p_in (Z.mul_in x.1 y.1 a.1 b.1)))
        (Z.add_in (x.0 ⊗ y.1) (x.1 ⊗ y.0) (Z.mul_in x.0 y.1 a.0 b.1) (Z.mul_in x.1 y.0 a.1 b.0));
  }

  commutes : (x y : V) → times x y ≡ times y x
  commutes x y = ap₂ pair (by_sorted F.cring (env x y x p) (mul X Y).0 (mul Y X).0 refl)
      (by_sorted F.cring (env x y x p) (mul X Y).1 (mul Y X).1 refl)

  left : (a x : V) → L a → J x → J (times a x)
  left a x h g =
      let i = in-L a h in
      let j = in-J x g in
      let k = in-L x (J-L x g) in
      let e : q ⊗ (a.0 ⊗ x.0 ⊕ p ⊗ (a.1 ⊗ x.1)) ≡ a.0 ⊗ (q ⊗ x.0) ⊕ a.1 ⊗ x.1 =
      F.mul-add q (a.0 ⊗ x.0) (p ⊗ (a.1 ⊗ x.1))
      ∙ ap₂ F.◌⊕◌ (by_sorted F.cring (q ∷ (a.0 ∷ (x.0 ∷ []))) (v0 ⊠ (v1 ⊠ v2)) (v1 ⊠ (v0 ⊠ v2)) refl)
      (qp (a.1 ⊗ x.1)) in
      J-in (times a x) (subst In (sym e)
      (Z.add_in (a.0 ⊗ (q ⊗ x.0)) (a.1 ⊗ x.1) (Z.mul_in a.0 (q ⊗ x.0) i.0 j.0) (Z.mul_in a.1 x.1 i.1 j.1)))
      (Z.add_in (a.0 ⊗ x.1) (a.1 ⊗ x.0) (Z.mul_in a.0 x.1 i.0 j.1) (Z.mul_in a.1 x.0 i.1 k.0))

  ideal : IsIdeal A L J
  ideal = record {
    inside = J-L;
    zero_in = J-in A.zero (subst In (sym (mul-zero F.ring q)) Z.zero_in) Z.zero_in;
    add_in = λ x y h g. let a = in-J x h in let b = in-J y g in
        J-in (A.◌⊕◌ x y) (subst In (sym (F.mul-add q x.0 y.0)) (Z.add_in (q ⊗ x.0) (q ⊗ y.0) a.0 b.0))
        (Z.add_in x.1 y.1 a.1 b.1);
    left = left;
    right = λ a x h g. subst J (commutes a x) (left a x h g);
  }

  over : Within (Multiple A p L) J
  over x m =
      let i = in-L m.0 m.1 in
      subst J (sym m.2) (J-in (A.◌•◌ p m.0) (subst In (sym (qp m.0.0)) i.0) (Z.mul_in p m.0.1 U.p_in i.1))

  falls : Within (Power A J 1) (Multiple A p L)
  falls = SumOf_in A (Product A J J) (Multiple A p L)
      (A.zero, order.zero_in, ap₂ pair (sym (mul-zero F.ring p)) (sym (mul-zero F.ring p)))
      (Multiple-add A p L order) (λ x w.
      let a = w.0 in
      let b = w.1 in
      let i = in-J a w.2 in
      let j = in-J b w.3 in
      let k = in-L b (J-L b w.3) in
      let y : V = (q ⊗ a.0 ⊗ b.0 ⊕ a.1 ⊗ b.1, q ⊗ a.0 ⊗ b.1 ⊕ a.1 ⊗ (q ⊗ b.0)) in (
        y,
        L-in y (Z.add_in (q ⊗ a.0 ⊗ b.0) (a.1 ⊗ b.1) (Z.mul_in (q ⊗ a.0) b.0 i.0 k.0) (Z.mul_in a.1 b.1 i.1 j.1))
            (Z.add_in (q ⊗ a.0 ⊗ b.1) (a.1 ⊗ (q ⊗ b.0)) (Z.mul_in (q ⊗ a.0) b.1 i.0 j.1)
            (Z.mul_in a.1 (q ⊗ b.0) i.1 j.0)),
        w.4 ∙ sym (ap₂ pair
            (by_sorted F.cring (p ∷ (q ∷ (a.0 ∷ (a.1 ∷ (b.0 ∷ (b.1 ∷ [])))))) (v0 ⊠ (v1 ⊠ v2 ⊠ v4 ⊞ v3 ⊠ var 5))
            (v0 ⊠ (v1 ⊠ v2) ⊠ v4 ⊞ v0 ⊠ (v3 ⊠ var 5)) refl
            ∙ ap (λ c. c ⊗ b.0 ⊕ p ⊗ (a.1 ⊗ b.1)) (pq a.0))
            (by_sorted F.cring (p ∷ (q ∷ (a.0 ∷ (a.1 ∷ (b.0 ∷ (b.1 ∷ []))))))
            (v0 ⊠ (v1 ⊠ v2 ⊠ var 5 ⊞ v3 ⊠ (v1 ⊠ v4))) (v0 ⊠ (v1 ⊠ v2) ⊠ var 5 ⊞ v3 ⊠ (v0 ⊠ (v1 ⊠ v4))) refl
            ∙ ap₂ (λ c d. c ⊗ b.1 ⊕ a.1 ⊗ d) (pq a.0) (pq b.0))),
      ))

  proper : J A.one → ⊥
  proper h = strict (subst In (F.mul-one q) (in-J A.one h).0)

  simple : (a : V) → L a → J a ⊎ Generated A L J a A.one
  simple a l =
      let i = in-L a l in
      ⊎_elim (λ (h : In (q ⊗ a.0)). inl (J-in a h i.1))
      (λ (h : (a.0 ≡ F.zero → ⊥) × In (F.inv a.0)).
      let u = F.inv a.0 in
      let P : V → Type 0 = λ x. Around A L a x ⊎ J x in
      let l0 : V = (u, F.zero) in
      let x : V = times (times l0 a) A.one in
      let y : V = (F.zero, neg (u ⊗ a.1)) in
      let e : A.◌⊕◌ x y ≡ A.one = ap₂ pair
      (by_sorted F.cring (u ∷ (a.0 ∷ (a.1 ∷ (p ∷ []))))
      ((v0 ⊠ v1 ⊞ v3 ⊠ (nil ⊠ v2)) ⊠ unit ⊞ v3 ⊠ ((v0 ⊠ v2 ⊞ nil ⊠ v1) ⊠ nil) ⊞ nil) (v0 ⊠ v1) refl
      ∙ F.inv-mul a.0 h.0)
      (by_sorted F.cring (u ∷ (a.0 ∷ (a.1 ∷ (p ∷ []))))
      ((v0 ⊠ v1 ⊞ v3 ⊠ (nil ⊠ v2)) ⊠ nil ⊞ (v0 ⊠ v2 ⊞ nil ⊠ v1) ⊠ unit ⊞ minus (v0 ⊠ v2)) nil refl) in
      inr (subst (SumOf A P) e (SumOf_add A P x y
      (SumOf_one A P x (inl (l0, A.one, L-in l0 h.1 Z.zero_in, order.one_in, refl)))
      (SumOf_one A P y (inr
      (J-in y (subst In (sym (mul-zero F.ring q)) Z.zero_in) (Z.neg_in (u ⊗ a.1) (Z.mul_in u a.1 h.1 i.1)))))))
      )
      (U.multiple_or_unit a.0 i.0)

  root : V
  root = (F.zero, F.one)

  root-in : J root
  unfolding root
  root-in = J-in root (subst In (sym (mul-zero F.ring q)) Z.zero_in) Z.one_in

  left_order : (a : V) → ((x : V) → J x → J (times a x)) → L a
  unfolding root
  left_order a h =
      let i = in-J (times a root) (h root root-in) in
      L-in a (subst In (by_sorted F.cring (a.0 ∷ (a.1 ∷ [])) (v0 ⊠ unit ⊞ v1 ⊠ nil) (v0) refl) i.1)
      (subst In (ap (λ c. q ⊗ c)
      (by_sorted F.cring (a.0 ∷ (a.1 ∷ (p ∷ []))) (v0 ⊠ nil ⊞ v2 ⊠ (v1 ⊠ unit)) (v2 ⊠ v1) refl) ∙ qp a.1) i.0)

  not_multiple : Within J (Multiple A p L) → ⊥
  unfolding root
  not_multiple h =
      let m = h root root-in in
      let e : q ≡ m.0.1 = sym (F.mul-one q) ∙ ap (λ (z : V). q ⊗ z.1) m.2 ∙ qp m.0.1 in
      strict (subst In (sym e) (in-L m.0 m.1).1)

  by_elements : SimpleByElements A L J
  by_elements = record { proper = proper; generates = simple }

  pub ramified_example : IsRamified F Z p A 2 os js
  ramified_example = record {
    order = record {
      order = order;
      independent =
          record { only_zero = λ c h i l. pick c (sym (os-comb (c 0) (c 1)) ∙ h) i l };
    };
    independent = record {
      only_zero = λ c h i l.
          let e : pair (p ⊗ c 0) (c 1) ≡ A.zero = sym (js-comb (c 0) (c 1)) ∙ h in
          pick c (ap₂ pair (sym (qp (c 0)) ∙ ap (λ (z : V). q ⊗ z.0) e ∙ mul-zero F.ring q)
          (ap (λ (z : V). z.1) e)) i l;
    };
    radical = radical_of_simple A L J order by_elements p ideal over 1 falls;
    simple = simple_by_tests A L J order by_elements;
    left_order = (left_order, λ a l x h. left a x l h);
    not_multiple = not_multiple;
  }
    where
      pick : (c : ℕ → K) → pair (c 0) (c 1) ≡ A.zero → (i : ℕ) → i < 2 → c i ≡ F.zero
      pick c e zero l = ap (λ (z : V). z.0) e
      pick c e (suc zero) l = ap (λ (z : V). z.1) e
      pick c e (suc (suc i)) l = absurd (omega arith)
