-- A family in another order: two members exchanged, and the last member moved to an earlier place.
use Rattle.std.specs.Prelude.{◌≡◌, ℕ, suc, ◌<◌, ◌≤◌, cond, eqb}
use Rattle.std.proofs.Common.{refl, sym, ◌∙◌, ap, arith, ⊎_elim}
use Rattle.std.proofs.lemmas.Bool.{cases_lt, cases_eq, eq-eqb, ne_eqb}
use Rattle.theory_rings.specs.Ring.{RingOn}
use Rattle.theory_rings.proofs.Sums.Bump.{bump, bump-below, bump-above, bump-lt, bump-apart, unbump, bump-unbump}
use Rattle.theory_rings.proofs.Sums.Bump.{unbump-lt}
use Rattle.theory_spaces.specs.Module.{ModuleOn}
use Rattle.theory_rows.proofs.Transforms.{Transformed, Transformed-permute}

-- i and n exchanged
exchange : ℕ → ℕ → ℕ → ℕ
exchange i n k = cond (eqb k i) n (cond (eqb k n) i k)

exchange-first : (i n : ℕ) → exchange i n i ≡ n
unfolding exchange
exchange-first i n = ap (λ b. cond b n (cond (eqb i n) i i)) (eq-eqb i i refl)

exchange-last : (i n : ℕ) → (n ≡ i → ⊥) → exchange i n n ≡ i
unfolding exchange
exchange-last i n d = ap (λ b. cond b n (cond (eqb n n) i n)) (ne_eqb n i d)
    ∙ ap (λ b. cond b i n) (eq-eqb n n refl)

exchange-other : (i n k : ℕ) → (k ≡ i → ⊥) → (k ≡ n → ⊥) → exchange i n k ≡ k
unfolding exchange
exchange-other i n k d e = ap (λ b. cond b n (cond (eqb k n) i k)) (ne_eqb k i d) ∙ ap (λ b. cond b i k) (ne_eqb k n e)

exchange-lt : (i n k : ℕ) → i < n → k < suc n → exchange i n k < suc n
exchange-lt i n k l h = ⊎_elim
    (λ (e : k ≡ i). let a = ap (exchange i n) e ∙ exchange-first i n in omega arith)
    (λ (d : k ≡ i → ⊥). ⊎_elim
    (λ (e : k ≡ n). let a = ap (exchange i n) e ∙ exchange-last i n (λ q. omega arith) in omega arith)
    (λ (f : k ≡ n → ⊥). let a = exchange-other i n k d f in omega arith) (cases_eq k n)) (cases_eq k i)

exchange-exchange : (i n k : ℕ) → i < n → exchange i n (exchange i n k) ≡ k
exchange-exchange i n k l = ⊎_elim
    (λ (e : k ≡ i). ap (exchange i n) (ap (exchange i n) e ∙ exchange-first i n)
    ∙ exchange-last i n (λ q. omega arith) ∙ sym e)
    (λ (d : k ≡ i → ⊥). ⊎_elim
    (λ (e : k ≡ n). ap (exchange i n) (ap (exchange i n) e ∙ exchange-last i n (λ q. omega arith))
    ∙ exchange-first i n ∙ sym e)
    (λ (f : k ≡ n → ⊥). ap (exchange i n) (exchange-other i n k d f) ∙ exchange-other i n k d f) (cases_eq k n))
    (cases_eq k i)

-- where each goes when n is moved to place b
to_place : ℕ → ℕ → ℕ → ℕ
to_place b n k = cond (eqb k n) b (bump b k)

from_place : ℕ → ℕ → ℕ → ℕ
from_place b n k = cond (eqb k b) n (unbump b k)

to_place-last : (b n : ℕ) → to_place b n n ≡ b
unfolding to_place
to_place-last b n = ap (λ q. cond q b (bump b n)) (eq-eqb n n refl)

to_place-other : (b n k : ℕ) → (k ≡ n → ⊥) → to_place b n k ≡ bump b k
unfolding to_place
to_place-other b n k d = ap (λ q. cond q b (bump b k)) (ne_eqb k n d)

from_place-at : (b n : ℕ) → from_place b n b ≡ n
unfolding from_place
from_place-at b n = ap (λ q. cond q n (unbump b b)) (eq-eqb b b refl)

from_place-other : (b n k : ℕ) → (k ≡ b → ⊥) → from_place b n k ≡ unbump b k
unfolding from_place
from_place-other b n k d = ap (λ q. cond q n (unbump b k)) (ne_eqb k b d)

bump_injective : (b i k : ℕ) → bump b i ≡ bump b k → i ≡ k
bump_injective b i k e = ⊎_elim
    (λ (l : i < b). let x = bump-below b i l in ⊎_elim
    (λ (g : k < b). let y = bump-below b k g in omega arith)
    (λ (g : b ≤ k). let y = bump-above b k g in omega arith) (cases_lt k b))
    (λ (l : b ≤ i). let x = bump-above b i l in ⊎_elim
    (λ (g : k < b). let y = bump-below b k g in omega arith)
    (λ (g : b ≤ k). let y = bump-above b k g in omega arith) (cases_lt k b)) (cases_lt i b)

module _ {K V : Type 0} {R : RingOn K} (M : ModuleOn R V) (n : ℕ) (v w : ℕ → V) where
  -- the vectors at i and n are exchanged
  pub Transformed-exchange : (i : ℕ) → i < n → w i ≡ v n → w n ≡ v i
      → ((k : ℕ) → k < n → (k ≡ i → ⊥) → w k ≡ v k) → Transformed M (suc n) (suc n) v w
  Transformed-exchange i l first last other =
      Transformed-permute M (suc n) v w (exchange i n) (exchange i n) (λ k h. exchange-lt i n k l h)
      (λ k h. exchange-lt i n k l h) (λ k h. exchange-exchange i n k l) (λ k h. exchange-exchange i n k l)
      (λ k h. ⊎_elim
      (λ (e : k ≡ i). ap w e ∙ first ∙ ap v (sym (ap (exchange i n) e ∙ exchange-first i n)))
      (λ (d : k ≡ i → ⊥). ⊎_elim
      (λ (e : k ≡ n). ap w e ∙ last ∙ ap v (sym (ap (exchange i n) e ∙ exchange-last i n (λ q. omega arith))))
      (λ (f : k ≡ n → ⊥). other k (ne_last k h f) d ∙ ap v (sym (exchange-other i n k d f))) (cases_eq k n))
      (cases_eq k i))
    where
      ne_last : (k : ℕ) → k < suc n → (k ≡ n → ⊥) → k < n
      ne_last k h f = ⊎_elim (λ (g : k < n). g) (λ (g : n ≤ k). absurd (f (omega arith))) (cases_lt k n)

  -- the last vector stands at place b, and those from there on one place up
  pub Transformed-insert : (b : ℕ) → b ≤ n → w b ≡ v n → ((k : ℕ) → k < n → w (bump b k) ≡ v k)
      → Transformed M (suc n) (suc n) v w
  Transformed-insert b l here other =
      Transformed-permute M (suc n) v w (from_place b n) (to_place b n) below_from below_to from_to to_from value
    where
      ne_last : (k : ℕ) → k < suc n → (k ≡ n → ⊥) → k < n
      ne_last k h f = ⊎_elim (λ (g : k < n). g) (λ (g : n ≤ k). absurd (f (omega arith))) (cases_lt k n)

      below_from : (k : ℕ) → k < suc n → from_place b n k < suc n
      below_from k h = ⊎_elim
          (λ (e : k ≡ b). let a = ap (from_place b n) e ∙ from_place-at b n in omega arith)
          (λ (d : k ≡ b → ⊥). let a = from_place-other b n k d in
          let u = unbump-lt n b k (omega arith) h d in omega arith) (cases_eq k b)

      below_to : (k : ℕ) → k < suc n → to_place b n k < suc n
      below_to k h = ⊎_elim
          (λ (e : k ≡ n). let a = ap (to_place b n) e ∙ to_place-last b n in omega arith)
          (λ (d : k ≡ n → ⊥). let a = to_place-other b n k d in let u = bump-lt b k n (ne_last k h d) in omega arith)
          (cases_eq k n)

      from_to : (k : ℕ) → k < suc n → from_place b n (to_place b n k) ≡ k
      from_to k h = ⊎_elim
          (λ (e : k ≡ n). ap (from_place b n) (ap (to_place b n) e ∙ to_place-last b n) ∙ from_place-at b n ∙ sym e)
          (λ (d : k ≡ n → ⊥). ap (from_place b n) (to_place-other b n k d)
          ∙ from_place-other b n (bump b k) (bump-apart b k)
          ∙ bump_injective b (unbump b (bump b k)) k (bump-unbump b (bump b k) (bump-apart b k))) (cases_eq k n)

      unbump_ne : (k : ℕ) → k < suc n → (k ≡ b → ⊥) → unbump b k ≡ n → ⊥
      unbump_ne k h d e = let u = unbump-lt n b k (omega arith) h d in omega arith

      to_from : (k : ℕ) → k < suc n → to_place b n (from_place b n k) ≡ k
      to_from k h = ⊎_elim
          (λ (e : k ≡ b). ap (to_place b n) (ap (from_place b n) e ∙ from_place-at b n) ∙ to_place-last b n ∙ sym e)
          (λ (d : k ≡ b → ⊥). ap (to_place b n) (from_place-other b n k d)
          ∙ to_place-other b n (unbump b k) (unbump_ne k h d) ∙ bump-unbump b k d) (cases_eq k b)

      value : (k : ℕ) → k < suc n → w k ≡ v (from_place b n k)
      value k h = ⊎_elim
          (λ (e : k ≡ b). ap w e ∙ here ∙ ap v (sym (ap (from_place b n) e ∙ from_place-at b n)))
          (λ (d : k ≡ b → ⊥). ap w (sym (bump-unbump b k d))
          ∙ other (unbump b k) (unbump-lt n b k (omega arith) h d) ∙ ap v (sym (from_place-other b n k d)))
          (cases_eq k b)
