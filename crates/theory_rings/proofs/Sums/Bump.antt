-- The numbers without one of them: `bump k` counts those other than k in order, and `unbump k` gives back the place of
-- each.
use Rattle.std.specs.Prelude.{◌≡◌, ℕ, suc, pred, ◌<◌, ◌≤◌, cond, ltb}
use Rattle.std.proofs.Common.{refl, ◌∙◌, arith, ⊎_elim}
use Rattle.std.proofs.lemmas.Bool.{cases_lt, lt-ltb, le-ltb}

-- the numbers without k, in order
abbrev pub bump : ℕ → ℕ → ℕ
bump k i = cond (ltb i k) i (suc i)

pub bump-below : (k i : ℕ) → i < k → bump k i ≡ i
bump-below k i h = rw (lt-ltb i k h) refl

pub bump-above : (k i : ℕ) → k ≤ i → bump k i ≡ suc i
bump-above k i h = rw (le-ltb i k h) refl

pub bump-lt : (k i n : ℕ) → i < n → bump k i < suc n
bump-lt k i n h =
    ⊎_elim (λ l. rw (bump-below k i l) (omega arith)) (λ l. rw (bump-above k i l) (omega arith)) (cases_lt i k)

pub bump-apart : (k i : ℕ) → bump k i ≡ k → ⊥
bump-apart k i e =
    ⊎_elim (λ l. let d = bump-below k i l in omega arith) (λ l. let d = bump-above k i l in omega arith) (cases_lt i k)

-- the place of a number among those without k
abbrev pub unbump : ℕ → ℕ → ℕ
unbump k j = cond (ltb j k) j (pred j)

pub bump-unbump : (k j : ℕ) → (j ≡ k → ⊥) → bump k (unbump k j) ≡ j
bump-unbump k j d = ⊎_elim
    (λ (l : j < k). rw (lt-ltb j k l) (bump-below k j l))
    (λ (l : k ≤ j). rw (le-ltb j k l)
    (⊎_elim (λ (g : k < j). bump-above k (pred j) (omega arith) ∙ omega arith)
    (λ (g : j ≤ k). absurd (d (omega arith))) (cases_lt k j)))
    (cases_lt j k)

pub unbump-lt : (n k j : ℕ) → k < suc n → j < suc n → (j ≡ k → ⊥) → unbump k j < n
unbump-lt n k j a b d = ⊎_elim
    (λ (l : j < k). rw (lt-ltb j k l) (omega arith))
    (λ (l : k ≤ j). rw (le-ltb j k l)
    (⊎_elim (λ (g : k < j). pred_smaller n k j a b g) (λ (g : j ≤ k). absurd (d (omega arith))) (cases_lt k j)))
    (cases_lt j k)
  where
    pred_smaller : (n k j : ℕ) → k < suc n → j < suc n → k < j → pred j < n
    pred_smaller n k j a b g = omega arith
