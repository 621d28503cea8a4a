-- The terms of a sum may be taken in another order.
use Rattle.std.specs.Prelude.{◌≡◌, ℕ, zero, suc, ◌<◌}
use Rattle.std.proofs.Common.{refl, sym, ◌∙◌, ap, arith}
use Rattle.theory_rings.specs.Ring.{AddCommMonoidOn}
use Rattle.theory_rings.specs.Sum.{sum}
use Rattle.theory_rings.proofs.Sums.Bump.{bump, unbump, bump-unbump, unbump-lt}
use Rattle.theory_rings.proofs.Sums.Sums.{sum_congr, sum_take_out}

module _ {V : Type 0} (M : AddCommMonoidOn V) where
  infixl 65 ◌⊕◌
  open M use {◌⊕◌}

  -- s maps the numbers below n to themselves, one to one
  pub sum_reindex : (n : ℕ) (s : ℕ → ℕ) (f : ℕ → V) → ((i : ℕ) → i < n → s i < n)
      → ((i j : ℕ) → i < n → j < n → s i ≡ s j → i ≡ j)
      → sum M n (λ i. f (s i)) ≡ sum M n f
  sum_reindex zero s f h inj = refl
  sum_reindex (suc n) s f h inj =
      let k : ℕ = s n in
      let off : (i : ℕ) → i < n → s i ≡ k → ⊥ = λ i l e. let q = inj i n (omega arith) (omega arith) e in omega arith in
      let t : ℕ → ℕ = λ i. unbump k (s i) in
      let back : (i : ℕ) → i < n → bump k (t i) ≡ s i = λ i l. bump-unbump k (s i) (off i l) in
      let inner : sum M n (λ i. f (bump k (t i))) ≡ sum M n (λ i. f (bump k i)) = sum_reindex n t (λ i. f (bump k i))
      (λ i l. unbump-lt n k (s i) (h n (omega arith)) (h i (omega arith)) (off i l))
      (λ i j a b e. inj i j (omega arith) (omega arith) (sym (back i a) ∙ ap (bump k) e ∙ back j b)) in
      ap (λ x. x ⊕ f k) (sum_congr M n (λ i. f (s i)) (λ i. f (bump k (t i))) (λ i l. ap f (sym (back i l))) ∙ inner)
      ∙ M.add_comm (sum M n (λ i. f (bump k i))) (f k)
      ∙ sym (sum_take_out M n k f (h n (omega arith)))
