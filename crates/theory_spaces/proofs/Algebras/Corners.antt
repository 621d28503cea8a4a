-- The corner of an idempotent: it keeps self-duality, and its centre is the multiples of the idempotent.
use Rattle.std.specs.Prelude.{◌≡◌, ℕ}
use Rattle.std.proofs.Common.{sym, ◌∙◌, ap, subst}
use Rattle.theory_rings.specs.Ring.{RingOn}
use Rattle.theory_rings.specs.Sum.{sum}
use Rattle.theory_rings.proofs.Sums.Sums.{sum_congr, mul-sum, sum-mul}
use Rattle.theory_spaces.specs.Module.{AlgebraOn}
use Rattle.theory_spaces.specs.Algebra.{InCorner, Central}

module _ {K V : Type 0} {R : RingOn K} (A : AlgebraOn R V) (e : V) (idem : A.◌⊗◌ e e ≡ e) where
  infixl 70 ◌⊗◌
  open A use {◌⊗◌, monoid}

  -- L is closed under products and all that pairs with L into Q: its part in the corner is all of the corner that pairs
  -- with that part into Q
  pub corner_dual : (tr : V → K) (Q : K → Type 0) (L : V → Type 0) → ((x y : V) → tr (x ⊗ y) ≡ tr (y ⊗ x))
      → ((x y : V) → L x → L y → L (x ⊗ y)) → L e
      → ((x : V) → ((y : V) → L y → Q (tr (y ⊗ x))) → L x)
      → (x : V) → InCorner A e x → ((y : V) → InCorner A e y → L y → Q (tr (y ⊗ x))) → L x
  corner_dual tr Q L comm closed le dual x c h = dual x (λ y l.
      let z = (e ⊗ y) ⊗ e in
      let left : e ⊗ z ≡ z = sym (A.mul_assoc e (e ⊗ y) e)
      ∙ ap (λ t. t ⊗ e) (sym (A.mul_assoc e e y) ∙ ap (λ t. t ⊗ y) idem) in
      let right : z ⊗ e ≡ z = A.mul_assoc (e ⊗ y) e e ∙ ap (λ t. (e ⊗ y) ⊗ t) idem in
      let same : tr (z ⊗ x) ≡ tr (y ⊗ x) =
      ap tr (A.mul_assoc (e ⊗ y) e x ∙ ap (λ t. (e ⊗ y) ⊗ t) c.0 ∙ A.mul_assoc e y x) ∙ comm e (y ⊗ x)
      ∙ ap tr (A.mul_assoc y x e ∙ ap (λ t. y ⊗ t) c.1) in
      subst Q same (h z (left, right) (closed (e ⊗ y) e (closed e y le l) le)))

  -- where 1 is a sum of x i e y i and the centre is the field, the centre of the corner is the multiples of e
  pub corner_centre : (r : ℕ) (x y : ℕ → V) → A.one ≡ sum monoid r (λ i. (x i ⊗ e) ⊗ y i)
      → Central A
      → (c : V) → InCorner A e c → ((a : V) → InCorner A e a → c ⊗ a ≡ a ⊗ c) → (k : K) × (c ≡ A.◌•◌ k e)
  corner_centre r x y whole central c inside commutes =
      let l = central.multiple z (λ a. sym (moves a)) in
      (l.0, sym cz ∙ ap (λ t. e ⊗ t) l.1 ∙ A.scale-right l.0 e A.one ∙ ap (A.◌•◌ l.0) (A.mul-one e))
    where
      z : V
      z = sum monoid r (λ i. (x i ⊗ c) ⊗ y i)

      -- what stands between two e commutes with c
      middle : (a : V) → (e ⊗ a) ⊗ c ≡ c ⊗ (a ⊗ e)
      middle a =
          let w = (e ⊗ a) ⊗ e in
          let left : e ⊗ w ≡ w = sym (A.mul_assoc e (e ⊗ a) e)
          ∙ ap (λ t. t ⊗ e) (sym (A.mul_assoc e e a) ∙ ap (λ t. t ⊗ a) idem) in
          let right : w ⊗ e ≡ w = A.mul_assoc (e ⊗ a) e e ∙ ap (λ t. (e ⊗ a) ⊗ t) idem in
          ap (λ t. (e ⊗ a) ⊗ t) (sym inside.0) ∙ sym (A.mul_assoc (e ⊗ a) e c) ∙ sym (commutes w (left, right))
          ∙ ap (λ t. c ⊗ t) (A.mul_assoc e a e) ∙ sym (A.mul_assoc c e (a ⊗ e)) ∙ ap (λ t. t ⊗ (a ⊗ e)) inside.1

      -- (x j e y j) a (x i c y i) is (x j c y j) a (x i e y i)
      exchanged : (a : V) (i j : ℕ)
          → ((x j ⊗ e) ⊗ y j) ⊗ (a ⊗ ((x i ⊗ c) ⊗ y i)) ≡ ((x j ⊗ c) ⊗ y j) ⊗ (a ⊗ ((x i ⊗ e) ⊗ y i))
      exchanged a i j = left_form ∙ ap (λ t. x j ⊗ (t ⊗ y i)) (middle (y j ⊗ (a ⊗ x i))) ∙ sym right_form
        where
          left_form : ((x j ⊗ e) ⊗ y j) ⊗ (a ⊗ ((x i ⊗ c) ⊗ y i)) ≡ x j ⊗ (((e ⊗ (y j ⊗ (a ⊗ x i))) ⊗ c) ⊗ y i)
          left_form = simp A.mul_assoc

          right_form : ((x j ⊗ c) ⊗ y j) ⊗ (a ⊗ ((x i ⊗ e) ⊗ y i)) ≡ x j ⊗ ((c ⊗ ((y j ⊗ (a ⊗ x i)) ⊗ e)) ⊗ y i)
          right_form = simp A.mul_assoc

      moves : (a : V) → a ⊗ z ≡ z ⊗ a
      moves a =
          sym (A.one-mul (a ⊗ z)) ∙ ap (λ t. t ⊗ (a ⊗ z)) whole
          ∙ sum-mul A.ring r (a ⊗ z) (λ j. (x j ⊗ e) ⊗ y j)
          ∙ sum_congr monoid r (λ j. ((x j ⊗ e) ⊗ y j) ⊗ (a ⊗ z))
          (λ j. sum monoid r (λ i. ((x j ⊗ e) ⊗ y j) ⊗ (a ⊗ ((x i ⊗ c) ⊗ y i))))
          (λ j _. ap (λ t. ((x j ⊗ e) ⊗ y j) ⊗ t) (mul-sum A.ring r a (λ i. (x i ⊗ c) ⊗ y i))
          ∙ mul-sum A.ring r ((x j ⊗ e) ⊗ y j) (λ i. a ⊗ ((x i ⊗ c) ⊗ y i)))
          ∙ sum_congr monoid r (λ j. sum monoid r (λ i. ((x j ⊗ e) ⊗ y j) ⊗ (a ⊗ ((x i ⊗ c) ⊗ y i))))
          (λ j. ((x j ⊗ c) ⊗ y j) ⊗ a)
          (λ j _. sum_congr monoid r (λ i. ((x j ⊗ e) ⊗ y j) ⊗ (a ⊗ ((x i ⊗ c) ⊗ y i)))
          (λ i. ((x j ⊗ c) ⊗ y j) ⊗ (a ⊗ ((x i ⊗ e) ⊗ y i))) (λ i _. exchanged a i j)
          ∙ sym (mul-sum A.ring r ((x j ⊗ c) ⊗ y j) (λ i. a ⊗ ((x i ⊗ e) ⊗ y i)))
          ∙ ap (λ t. ((x j ⊗ c) ⊗ y j) ⊗ t)
          (sym (mul-sum A.ring r a (λ i. (x i ⊗ e) ⊗ y i)) ∙ ap (λ t. a ⊗ t) (sym whole) ∙ A.mul-one a))
          ∙ sym (sum-mul A.ring r a (λ j. (x j ⊗ c) ⊗ y j))

      cz : e ⊗ z ≡ c
      cz =
          mul-sum A.ring r e (λ i. (x i ⊗ c) ⊗ y i)
          ∙ sum_congr monoid r (λ i. e ⊗ ((x i ⊗ c) ⊗ y i)) (λ i. c ⊗ ((x i ⊗ e) ⊗ y i))
          (λ i _. sym (A.mul_assoc e (x i ⊗ c) (y i)) ∙ ap (λ t. t ⊗ y i) (sym (A.mul_assoc e (x i) c) ∙ middle (x i))
          ∙ A.mul_assoc c (x i ⊗ e) (y i))
          ∙ sym (mul-sum A.ring r c (λ i. (x i ⊗ e) ⊗ y i)) ∙ ap (λ t. c ⊗ t) (sym whole) ∙ A.mul-one c
