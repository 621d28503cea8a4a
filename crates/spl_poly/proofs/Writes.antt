-- What a loop that writes an item at each step has done.
use Rattle.std.specs.Prelude.{◌≡◌, ℕ, ◌+◌, ◌<◌, ◌≤◌, List, length, get_or}
use Rattle.std.proofs.Common.{sym, ◌∙◌, ap, arith, ⊎_elim, set}
use Rattle.std.proofs.lemmas.Bool.{cases_lt}
use Rattle.std.proofs.lemmas.List.{get_or-set_other}
use Rattle.std.proofs.lemmas.Grind.{get_or-set_at}

-- the items from low to p are those that g makes of the items before, and those from p on are as before
module _ (r r0 : List ℕ) (g : ℕ → ℕ → ℕ) (low p x : ℕ) (inside : p < length r)
    (done : (k : ℕ) → low ≤ k → k < p → get_or r k 0 ≡ g k (get_or r0 k 0))
    (left : (k : ℕ) → p ≤ k → get_or r k 0 ≡ get_or r0 k 0)
    (value : x ≡ g p (get_or r p 0)) where
  pub set-done : (k : ℕ) → low ≤ k → k < p + 1 → get_or (set r p x) k 0 ≡ g k (get_or r0 k 0)
  set-done k l b = ⊎_elim
      (λ (h : k < p). get_or-set_other r p k x 0 (λ e. absurd (omega arith)) ∙ done k l h)
      (λ (h : p ≤ k). let e : k ≡ p = omega arith in
      get_or-set_at r p k x 0 e inside ∙ value ∙ ap (g p) (left p (omega arith))
      ∙ ap (λ i. g i (get_or r0 i 0)) (sym e))
      (cases_lt k p)

  pub set-left : (k : ℕ) → p + 1 ≤ k → get_or (set r p x) k 0 ≡ get_or r0 k 0
  set-left k l = get_or-set_other r p k x 0 (λ e. absurd (omega arith)) ∙ left k (omega arith)
