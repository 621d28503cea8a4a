-- The pigeonhole principle: a one-to-one map of the numbers below n to themselves is onto, as each number is met as
-- often as it stands among them, once.
use Rattle.std.specs.Prelude.{◌≡◌, ℕ, zero, suc, ◌<◌, ◌≤◌, cond, eqb}
use Rattle.std.proofs.Common.{refl, ◌∙◌, ap, arith, ⊎_elim}
use Rattle.std.proofs.lemmas.Bool.{cases_lt, cases_eq, eq-eqb, ne_eqb}
use Rattle.theory_rings.specs.Sum.{sum}
use Rattle.theory_rings.specs.Naturals.{nat_monoid}
use Rattle.theory_rings.proofs.Sums.Sums.{sum_eq_single}
use Rattle.theory_rings.proofs.Sums.Reindex.{sum_reindex}

-- a sum that is not 0 has a term that is not 0
pub term_pos_of_sum_pos : (n : ℕ) (f : ℕ → ℕ) → 0 < sum nat_monoid n f → (i : ℕ) × (i < n) × (0 < f i)
term_pos_of_sum_pos zero f h = absurd (omega arith)
term_pos_of_sum_pos (suc n) f h = ⊎_elim
    (λ (l : 0 < f n). (n, omega arith, l))
    (λ (l : f n ≤ 0). let r = term_pos_of_sum_pos n f (omega arith) in (r.0, omega arith, r.2))
    (cases_lt 0 (f n))

-- 1 at b, and else 0
abbrev indicator : ℕ → ℕ → ℕ
indicator b i = cond (eqb i b) 1 0

indicator-same : (b : ℕ) → indicator b b ≡ 1
indicator-same b = ap (λ t. cond t 1 0) (eq-eqb b b refl)

indicator-other : (b i : ℕ) → (i ≡ b → ⊥) → indicator b i ≡ 0
indicator-other b i d = ap (λ t. cond t 1 0) (ne_eqb i b d)

pub surjective_of_injective : (n : ℕ) (f : ℕ → ℕ) → ((a : ℕ) → a < n → f a < n)
    → ((a b : ℕ) → a < n → b < n → f a ≡ f b → a ≡ b) → (b : ℕ) → b < n → (a : ℕ) × (a < n) × (f a ≡ b)
surjective_of_injective n f into one b l =
    let met : sum nat_monoid n (λ i. indicator b (f i)) ≡ 1 =
    sum_reindex nat_monoid n f (indicator b) into one
    ∙ sum_eq_single nat_monoid n b (indicator b) l (λ i _ d. indicator-other b i d) ∙ indicator-same b in
    let r = term_pos_of_sum_pos n (λ i. indicator b (f i)) (omega arith) in (
      r.0,
      r.1,
      ⊎_elim
          (λ (e : f r.0 ≡ b). e)
          (λ (d : f r.0 ≡ b → ⊥). let z = indicator-other b (f r.0) d in let p = r.2 in absurd (omega arith))
          (cases_eq (f r.0) b),
    )
