-- Products of members of an ideal J and a last member of a set T.
use Rattle.std.specs.Prelude.{◌≡◌, ℕ, zero, suc, ◌+◌}
use Rattle.std.proofs.Common.{refl, sym, ◌∙◌, ap, subst, arith}
use Rattle.theory_rings.specs.Ring.{RingOn}
use Rattle.theory_spaces.specs.Module.{AlgebraOn}
use Rattle.theory_orders.specs.Orders.{IsOrder, IsIdeal, SumOf, Product, Power, Within, Same}
use Rattle.theory_orders.proofs.Lattices.SumsOf.{SumOf_in, SumOf_zero, SumOf_one, SumOf_add, SumOf_right, SumOf_ideal}

module _ {K V : Type 0} {R : RingOn K} (A : AlgebraOn R V) where
  infixl 70 ◌⊗◌
  open A use {◌⊗◌}

  -- products of m members of J and one of T
  abbrev pub Chain : (V → Type 0) → (V → Type 0) → ℕ → V → Type 0
  Chain J T zero x = T x
  Chain J T (suc m) x = (j : V) × (y : V) × J j × Chain J T m y × (x ≡ j ⊗ y)

  module _ (L : V → Type 0) (O : IsOrder A L) (J : V → Type 0) where
    -- the last member apart
    pub Chain_first : (T : V → Type 0) (m : ℕ) (x : V) → Chain J T m x → (y : V) × (z : V) × Chain J L m y × T z
        × (x ≡ y ⊗ z)
    Chain_first T zero x c = (A.one, x, O.one_in, c, sym (A.one-mul x))
    Chain_first T (suc m) x c =
        let r = Chain_first T m c.1 c.3 in
        (c.0 ⊗ r.0, r.1, (c.0, r.0, c.2, r.2, refl), r.3, c.4 ∙ ap (λ z. c.0 ⊗ z) r.4 ∙ sym (A.mul_assoc c.0 r.0 r.1))

    module _ (I : IsIdeal A L J) where
      pub Chain_in : (T : V → Type 0) → Within T L → (m : ℕ) → Within (Chain J T m) L
      Chain_in T h zero x c = h x c
      Chain_in T h (suc m) x c = subst L (sym c.4) (O.mul_in c.0 c.1 (I.inside c.0 c.2) (Chain_in T h m c.1 c.3))

      pub Chain_inside : (m : ℕ) → Within (Chain J L m) L
      Chain_inside = Chain_in L (λ x l. l)

      -- one more member of J at the end
      pub Chain_last : (m : ℕ) (y j : V) → Chain J L m y → J j → Chain J L (suc m) (y ⊗ j)
      Chain_last zero y j c h = (y ⊗ j, A.one, I.left y j c h, O.one_in, sym (A.mul-one (y ⊗ j)))
      Chain_last (suc m) y j c h =
          (c.0, c.1 ⊗ j, c.2, Chain_last m c.1 j c.3 h, ap (λ z. z ⊗ j) c.4 ∙ A.mul_assoc c.0 c.1 j)

      -- the last member of J apart
      pub Chain_unlast : (m : ℕ) (x : V) → Chain J L (suc m) x → (y : V) × (j : V) × Chain J L m y × J j × (x ≡ y ⊗ j)
      Chain_unlast zero x c = (A.one, x, O.one_in, subst J (sym c.4) (I.right c.1 c.0 c.3 c.2), sym (A.one-mul x))
      Chain_unlast (suc m) x c =
          let r = Chain_unlast m c.1 c.3 in
          (c.0 ⊗ r.0, r.1, (c.0, r.0, c.2, r.2, refl), r.3, c.4 ∙ ap (λ z. c.0 ⊗ z) r.4 ∙ sym (A.mul_assoc c.0 r.0 r.1))

      -- chains are closed under products with L where T is
      pub Chain_right_of : (T : V → Type 0) → ((x l : V) → T x → L l → T (x ⊗ l)) → (m : ℕ) (x l : V) → Chain J T m x
          → L l → Chain J T m (x ⊗ l)
      Chain_right_of T t zero x l c h = t x l c h
      Chain_right_of T t (suc m) x l c h =
          (c.0, c.1 ⊗ l, c.2, Chain_right_of T t m c.1 l c.3 h, ap (λ z. z ⊗ l) c.4 ∙ A.mul_assoc c.0 c.1 l)

      pub Chain_left_of : (T : V → Type 0) → ((l x : V) → L l → T x → T (l ⊗ x)) → (m : ℕ) (l x : V) → L l
          → Chain J T m x → Chain J T m (l ⊗ x)
      Chain_left_of T t zero l x h c = t l x h c
      Chain_left_of T t (suc m) l x h c =
          (l ⊗ c.0, c.1, I.left l c.0 h c.2, c.3, ap (λ z. l ⊗ z) c.4 ∙ sym (A.mul_assoc l c.0 c.1))

      pub Chain_right : (m : ℕ) (x l : V) → Chain J L m x → L l → Chain J L m (x ⊗ l)
      Chain_right = Chain_right_of L O.mul_in

      pub Chain_left : (m : ℕ) (l x : V) → L l → Chain J L m x → Chain J L m (l ⊗ x)
      Chain_left = Chain_left_of L O.mul_in

      pub Chain_ideal : (m : ℕ) → IsIdeal A L (SumOf A (Chain J L m))
      Chain_ideal m = SumOf_ideal A L (Chain J L m) O (Chain_inside m) (λ a x l c. Chain_left m a x l c)
          (λ a x l c. Chain_right m x a c l)

      -- fewer members
      pub Chain_fewer : (m : ℕ) → Within (Chain J L (suc m)) (Chain J L m)
      Chain_fewer m x c = subst (Chain J L m) (sym c.4) (Chain_left m c.0 c.1 (I.inside c.0 c.2) c.3)

      pub Power_right : (k : ℕ) (x y : V) → Power A J k x → L y → Power A J k (x ⊗ y)
      Power_right zero x y h l = I.right y x l h
      Power_right (suc k) x y h l = SumOf_right A (Product A (Power A J k) J) (Product A (Power A J k) J) y
          (λ z w. (w.0, w.1 ⊗ y, w.2, I.right y w.1 l w.3, ap (λ u. u ⊗ y) w.4 ∙ A.mul_assoc w.0 w.1 y)) x h

      -- a member of a power times a chain is in a power
      Chain_power : (m k : ℕ) (x y : V) → Power A J k x → Chain J L m y → Power A J (k + m) (x ⊗ y)
      Chain_power zero k x y h c = let e : k ≡ k + zero = omega arith in
          subst (λ n. Power A J n (x ⊗ y)) e (Power_right k x y h c)
      Chain_power (suc m) k x y h c =
          let e : suc k + m ≡ k + suc m = omega arith in
          subst (λ n. Power A J n (x ⊗ y)) e
          (subst (Power A J (suc k + m)) (A.mul_assoc x c.0 c.1 ∙ ap (λ z. x ⊗ z) (sym c.4))
          (Chain_power m (suc k) (x ⊗ c.0) c.1
          (SumOf_one A (Product A (Power A J k) J) (x ⊗ c.0) (x, c.0, h, c.2, refl)) c.3))

      pub chain_in_power : (m : ℕ) → Within (Chain J L (suc m)) (Power A J m)
      chain_in_power m x c =
          let e : zero + m ≡ m = omega arith in
          subst (Power A J m) (sym c.4) (subst (λ n. Power A J n (c.0 ⊗ c.1)) e (Chain_power m zero c.0 c.1 c.2 c.3))

      pub Power_zero : (m : ℕ) → Power A J m A.zero
      Power_zero zero = I.zero_in
      Power_zero (suc m) = SumOf_zero A (Product A (Power A J m) J)

      pub Power_add : (m : ℕ) (x y : V) → Power A J m x → Power A J m y → Power A J m (A.◌⊕◌ x y)
      Power_add zero x y h g = I.add_in x y h g
      Power_add (suc m) x y h g = SumOf_add A (Product A (Power A J m) J) x y h g

      -- a power of J is the sums of products of as many members
      pub power_in_chains : (m : ℕ) → Within (Power A J m) (SumOf A (Chain J L (suc m)))
      power_in_chains zero x h = SumOf_one A (Chain J L 1) x (x, A.one, h, O.one_in, sym (A.mul-one x))
      power_in_chains (suc m) x h = SumOf_in A (Product A (Power A J m) J) (SumOf A (Chain J L (suc (suc m))))
          (SumOf_zero A (Chain J L (suc (suc m)))) (SumOf_add A (Chain J L (suc (suc m))))
          (λ y w. subst (SumOf A (Chain J L (suc (suc m)))) (sym w.4)
          (SumOf_right A (Chain J L (suc m)) (Chain J L (suc (suc m))) w.1 (λ z c. Chain_last (suc m) z w.1 c w.3) w.0
          (power_in_chains m w.0 w.2))) x h

      pub power_chains : (m : ℕ) → Same (Power A J m) (SumOf A (Chain J L (suc m)))
      power_chains m = (
        power_in_chains m,
        SumOf_in A (Chain J L (suc m)) (Power A J m) (Power_zero m) (Power_add m) (chain_in_power m),
      )
