-- Dimension: m + 1 rows of length m are dependent, and independent vectors in a span are no more than what spans it.
use Rattle.std.specs.Prelude.{◌≡◌, ℕ, zero, suc, ◌<◌, ◌≤◌}
use Rattle.std.proofs.Common.{sym, ◌∙◌, ap, subst, arith, ⊎_elim}
use Rattle.std.proofs.lemmas.Bool.{cases_eq, cases_lt}
use Rattle.theory_rings.specs.Ring.{FieldOn}
use Rattle.theory_rings.specs.Sum.{sum}
use Rattle.theory_rings.proofs.Rings.RingLaws.{neg_unique, neg_neg}
use Rattle.theory_rings.proofs.Sums.Bump.{unbump, bump-unbump, unbump-lt, bump}
use Rattle.theory_rings.proofs.Sums.Sums.{sum_take_out}
use Rattle.theory_rings.proofs.Rings.ZeroTests.{eq_zero_or}
use Rattle.theory_spaces.specs.Module.{ModuleOn}
use Rattle.theory_spaces.specs.Linear.{comb, InSpan, Independent, Basis, Exchange}
use Rattle.theory_spaces.proofs.Linear.Modules.{scale-neg, neg-scale, comb_zero, comb_congr_right, comb-scale}
use Rattle.theory_spaces.proofs.Linear.Modules.{comb-comb, rows_of, InSpan-member, InSpan_trans, independent_none}
use Rattle.theory_spaces.proofs.Linear.Modules.{Independent-front}
use Rattle.theory_spaces.proofs.Linear.Decide.{NotAllZero, Related, pivot, cleared, related_none, related_more}
use Rattle.theory_spaces.proofs.Linear.Decide.{related_pivot}

-- m + 1 rows of length m are dependent
pub dependent : {K : Type 0} (F : FieldOn K) (m : ℕ) (a : ℕ → ℕ → K) → Related F (suc m) m a
dependent F zero a = record {
  weights = λ _. F.one;
  nontrivial = record { place = zero; within = omega arith; nonzero = F.one-nonzero };
  vanishes = λ j l. absurd (omega arith);
}
dependent F (suc m) a = ⊎_elim
    (λ (p : NotAllZero F (suc (suc m)) (λ i. a i m)).
    related_pivot F (suc m) m a p (dependent F m (cleared F m p.place a)))
    (λ (z : (i : ℕ) → i < suc (suc m) → a i m ≡ F.zero). related_none F (suc (suc m)) m a z
    (related_more F (suc m) m a (dependent F m a)))
    (pivot F (suc (suc m)) (λ i. a i m))

module _ {K V : Type 0} (F : FieldOn K) (M : ModuleOn F.ring V) where
  -- m + 1 combinations of m vectors are dependent
  pub exchange_rows : (m : ℕ) (v w : ℕ → V) → ((i : ℕ) → i < suc m → InSpan M m w (v i)) → Independent M (suc m) v → ⊥
  exchange_rows m v w s h =
      let a = rows_of M (suc m) m v w s in
      let r = dependent F m a.0 in
      r.nontrivial.nonzero (h.only_zero r.weights
      (comb_congr_right M (suc m) r.weights v (λ i. comb M m (a.0 i) w) a.1
      ∙ comb-comb M (suc m) m r.weights a.0 w
      ∙ comb_zero M m (λ j. sum F.monoid (suc m) (λ i. F.◌⊗◌ (r.weights i) (a.0 i j))) w r.vanishes)
      r.nontrivial.place r.nontrivial.within)

  -- independent vectors in the span of m vectors are at most m
  pub exchange : Exchange F M
  exchange n m v w h g = ⊎_elim
      (λ (l : m < n). absurd (exchange_rows m v w (λ i k. g i (omega arith)) (Independent-front M (suc m) n v l h)))
      (λ l. l)
      (cases_lt m n)

  -- a relation with a nonzero weight at one vector puts that vector in the span of the others
  pub in_others : (n k : ℕ) (c : ℕ → K) (w : ℕ → V) → k < suc n → comb M (suc n) c w ≡ M.zero → (c k ≡ F.zero → ⊥)
      → InSpan M n (λ i. w (bump k i)) (w k)
  in_others n k c w l e d =
      let a = F.inv (c k) in
      let y = comb M n (λ i. c (bump k i)) (λ i. w (bump k i)) in
      let e1 : y ≡ M.neg (M.◌•◌ (c k) (w k)) =
      neg_unique M.additive (M.◌•◌ (c k) (w k)) y
      (sym (sum_take_out M.monoid n k (λ i. M.◌•◌ (c i) (w i)) l) ∙ e) in
      record {
        weights = λ i. F.◌⊗◌ (F.neg a) (c (bump k i));
        combines = sym (comb-scale M n (F.neg a) (λ i. c (bump k i)) (λ i. w (bump k i))
            ∙ ap (M.◌•◌ (F.neg a)) e1 ∙ neg-scale M a (M.neg (M.◌•◌ (c k) (w k)))
            ∙ ap M.neg (scale-neg M a (M.◌•◌ (c k) (w k)))
            ∙ neg_neg M.additive (M.◌•◌ a (M.◌•◌ (c k) (w k))) ∙ sym (M.mul-scale a (c k) (w k))
            ∙ ap (λ b. M.◌•◌ b (w k)) (F.inv-mul (c k) d) ∙ M.one-scale (w k));
      }

  -- n vectors that span n independent ones are independent
  pub independent_of_span : (n : ℕ) (v w : ℕ → V) → Independent M n v → ((i : ℕ) → i < n → InSpan M n w (v i))
      → Independent M n w
  independent_of_span zero v w h s = independent_none M w
  independent_of_span (suc n) v w h s =
      record {
        only_zero = λ c e k l.
            ⊎_elim (λ z. z) (λ d. absurd (too_few c k l (in_others n k c w l e d))) (eq_zero_or F.zero_test (c k));
      }
    where
      too_few : (c : ℕ → K) (k : ℕ) → k < suc n → InSpan M n (λ i. w (bump k i)) (w k) → ⊥
      too_few c k l g =
          let u : ℕ → V = λ i. w (bump k i) in
          let all : (i : ℕ) → i < suc n → InSpan M n u (w i) = λ i a. ⊎_elim
          (λ (q : i ≡ k). let P : ℕ → Type 0 = λ j. InSpan M n u (w j) in subst P (sym q) g)
          (λ (q : i ≡ k → ⊥). let P : ℕ
          → Type 0 = λ j. InSpan M n u (w j) in
          subst P (bump-unbump k i q) (InSpan-member M n (unbump k i) u (unbump-lt n k i l a q)))
          (cases_eq i k) in
          exchange_rows n v u (λ i a. InSpan_trans M (suc n) n w u (v i) all (s i a)) h

  -- two bases have one size
  pub dimension_unique : (n m : ℕ) → Basis M n → Basis M m → n ≡ m
  dimension_unique n m B C =
      let l : n ≤ m = exchange n m B.vec C.vec B.independent
      (λ i _. record { weights = C.coord (B.vec i); combines = C.expand (B.vec i) }) in
      let g : m ≤ n = exchange m n C.vec B.vec C.independent
      (λ i _. record { weights = B.coord (C.vec i); combines = B.expand (C.vec i) }) in
      omega arith
