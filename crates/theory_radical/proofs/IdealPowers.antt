-- A power of an ideal is 0 just where products of as many members are.
use Rattle.std.specs.Prelude.{◌≡◌, ℕ, zero, suc, ◌+◌}
use Rattle.std.proofs.Common.{refl, sym, ◌∙◌, ap, ap₂, subst, arith, ⊎_elim}
use Rattle.std.proofs.lemmas.Bool.{cases_lt}
use Rattle.theory_rings.specs.Ring.{RingOn}
use Rattle.theory_rings.proofs.Sums.Sums.{sum_eq_zero, sum-mul}
use Rattle.theory_spaces.specs.Sets.{Within, Zero, Power, ring_ops}
use Rattle.theory_spaces.proofs.Linear.Families.{push, push-below, push-at, push-above}
use Rattle.theory_radical.specs.Ideal.{product, ProductsVanish}
use Rattle.theory_radical.proofs.Nilpotent.NilIdeals.{product_congr}

module _ {V : Type 0} (R : RingOn V) (J : V → Type 0) where
  infixl 70 ◌⊗◌
  open R use {◌⊗◌}

  abbrev JPower : ℕ → V → Type 0
  JPower = Power (ring_ops R) J

  -- k members and one more
  push_members : (k : ℕ) (x : V) (c : ℕ → V) → J x → ((i : ℕ) → J (c i)) → (i : ℕ) → J (push k x c i)
  push_members k x c hx hc i = ⊎_elim
      (λ l. subst J (sym (push-below k x c i l)) (hc i))
      (λ l. subst J (sym (push-above k x c i l)) hx)
      (cases_lt i k)

  push_product : (k : ℕ) (x : V) (c : ℕ → V) → product R (push k x c) (suc k) ≡ x ⊗ product R c k
  push_product k x c = ap₂ (λ y z. y ⊗ z) (push-at k x c)
      (product_congr R k (push k x c) c (λ i l. push-below k x c i l))

  -- a member of a power times k members is 0, where as many products vanish
  vanish_through : (e k : ℕ) → ProductsVanish R J (suc (e + k)) → (x : V) → JPower e x → (c : ℕ → V)
      → ((i : ℕ) → J (c i))
      → x ⊗ product R c k ≡ R.zero
  vanish_through zero k h x j c hc =
      sym (push_product k x c)
      ∙ (let e : suc k ≡ suc (zero + k) = omega arith in ap (product R (push k x c)) e)
      ∙ h (push k x c) (push_members k x c j hc)
  vanish_through (suc e) k h x s c hc =
      let t = product R c k in
      ap (λ y. y ⊗ t) s.gives ∙ sum-mul R s.size t s.term
      ∙ sum_eq_zero R.monoid s.size (λ i. s.term i ⊗ t) (λ i l.
      let w = s.each i l in
      let q : suc (suc e + k) ≡ suc (e + suc k) = omega arith in
      ap (λ y. y ⊗ t) w.4 ∙ R.mul_assoc w.0 w.1 t ∙ ap (λ y. w.0 ⊗ y) (sym (push_product k w.1 c))
      ∙ vanish_through e (suc k) (subst (ProductsVanish R J) q h) w.0 w.2 (push k w.1 c) (push_members k w.1 c w.3 hc))

  -- a member of a power times n members lies in the power that is further by n
  power_further : (n j : ℕ) (x : V) → JPower j x → (a : ℕ → V) → ((i : ℕ) → J (a i))
      → JPower (j + n) (x ⊗ product R a n)
  power_further zero j x h a ha =
      let e : j ≡ j + zero = omega arith in subst (JPower (j + zero)) (sym (R.mul-one x)) (subst (λ k. JPower k x) e h)
  power_further (suc n) j x h a ha =
      let y = x ⊗ a n in
      let e : suc j + n ≡ j + suc n = omega arith in
      let next : JPower (suc j) y = record {
        size = 1;
        term = λ i. y;
        each = λ i l. (x, a n, h, ha n, refl);
        gives = sym (R.zero-add y);
      } in
      subst (λ k. JPower k (x ⊗ product R a (suc n))) e
      (subst (JPower (suc j + n)) (R.mul_assoc x (a n) (product R a n)) (power_further n (suc j) y next a ha))

  pub power_vanishes : J R.zero → (e : ℕ) → ProductsVanish R J (suc e) → Within (JPower e) (Zero (ring_ops R))
  power_vanishes z e h x s = sym (R.mul-one x) ∙ vanish_through e zero
      (let q : suc e ≡ suc (e + zero) = omega arith in subst (ProductsVanish R J) q h) x s (λ _. R.zero) (λ _. z)

  pub products_vanish : (e : ℕ) → Within (JPower e) (Zero (ring_ops R)) → ProductsVanish R J (suc e)
  products_vanish e h a ha =
      let s : JPower (zero + e) (a e ⊗ product R a e) = power_further e zero (a e) (ha e) a ha in
      let q : zero + e ≡ e = omega arith in
      h (a e ⊗ product R a e) (subst (λ k. JPower k (a e ⊗ product R a e)) q s)
