-- The n by n matrices that are 0 outside their first r rows and columns, and the unit among them.
use Rattle.std.specs.Prelude.{◌≡◌, ℕ, ◌+◌, ◌-◌, ◌<◌, ◌≤◌}
use Rattle.std.proofs.Common.{sym, ◌∙◌, ap, arith, inl, inr, ⊎_elim}
use Rattle.std.proofs.lemmas.Bool.{cases_lt}
use Rattle.theory_rings.specs.Ring.{RingOn}
use Rattle.theory_rings.specs.Sum.{sum}
use Rattle.theory_rings.specs.Power.{times}
use Rattle.theory_rings.proofs.Rings.RingLaws.{add-zero, zero-mul}
use Rattle.theory_rings.proofs.Sums.Sums.{sum_congr, sum_eq_zero, sum-split}
use Rattle.theory_spaces.specs.Matrix.{Matrix, delta, mat_trace, Within, Mat}
use Rattle.theory_spaces.proofs.Matrices.Matrices.{Mat-path, clip, clip-in, clip_within, mat_mul_within, matrices}
use Rattle.theory_spaces.proofs.Matrices.Matrices.{delta-same, delta-mat_mul}

module _ {K : Type 0} (R : RingOn K) (set : IsSet K) (n : ℕ) where
  infixl 65 ◌⊕◌
  infixl 70 ◌⊗◌
  open R use {monoid, ◌⊕◌, ◌⊗◌}

  abbrev S : RingOn (Mat R n)
  S = matrices R set n

  -- a sum of n terms that are 0 from r on
  pub sum_front : (r : ℕ) → r ≤ n → (f : ℕ → K) → ((i : ℕ) → r ≤ i → f i ≡ R.zero) → sum monoid n f ≡ sum monoid r f
  sum_front r l f h =
      let e : n ≡ r + (n - r) = omega arith in
      ap (λ k. sum monoid k f) e ∙ sum-split monoid r (n - r) f
      ∙ ap (λ x. sum monoid r f ⊕ x) (sum_eq_zero monoid (n - r) (λ i. f (r + i)) (λ i g. h (r + i) (omega arith)))
      ∙ add-zero monoid (sum monoid r f)

  pub within_le : (r : ℕ) → r ≤ n → (f : Matrix K) → Within R r f → Within R n f
  within_le r l f h i j d = ⊎_elim
      (λ (a : n ≤ i). let b : r ≤ i = omega arith in h i j (inl b))
      (λ (a : n ≤ j). let b : r ≤ j = omega arith in h i j (inr b)) d

  -- the unit matrix of the first r rows and columns
  abbrev pub corner : (r : ℕ) → r ≤ n → Mat R n
  corner r l = (clip R set r (delta R), within_le r l (clip R set r (delta R)) (clip_within R set r (delta R)))

  -- a product goes over the first r places, where the left factor is 0 outside them
  pub corner_product : (r : ℕ) → r ≤ n → (A M : Mat R n) → Within R r A.0 → (i k : ℕ)
      → (S.◌⊗◌ A M).0 i k ≡ sum monoid r (λ l. A.0 i l ⊗ M.0 l k)
  corner_product r l A M h i k =
      sum_front r l (λ j. A.0 i j ⊗ M.0 j k) (λ j g. ap (λ x. x ⊗ M.0 j k) (h i j (inr g)) ∙ zero-mul R (M.0 j k))

  pub corner-mul : (r : ℕ) (l : r ≤ n) (M : Mat R n) → Within R r M.0 → S.◌⊗◌ (corner r l) M ≡ M
  corner-mul r l M h = Mat-path R set n (S.◌⊗◌ (corner r l) M) M (λ i k.
      corner_product r l (corner r l) M (clip_within R set r (delta R)) i k
      ∙ ⊎_elim
      (λ (a : i < r). sum_congr monoid r (λ j. clip R set r (delta R) i j ⊗ M.0 j k) (λ j. delta R i j ⊗ M.0 j k)
      (λ j b. ap (λ x. x ⊗ M.0 j k) (clip-in R set r (delta R) i j a b)) ∙ delta-mat_mul R r M.0 i k a)
      (λ (a : r ≤ i). sum_eq_zero monoid r (λ j. clip R set r (delta R) i j ⊗ M.0 j k)
      (λ j _. ap (λ x. x ⊗ M.0 j k) (clip_within R set r (delta R) i j (inl a)) ∙ zero-mul R (M.0 j k))
      ∙ sym (h i k (inl a)))
      (cases_lt i r))

  pub corner-trace : (r : ℕ) (l : r ≤ n) → mat_trace R n (corner r l).0 ≡ times monoid r R.one
  corner-trace r l =
      sum_front r l (λ i. clip R set r (delta R) i i) (λ i g. clip_within R set r (delta R) i i (inl g))
      ∙ sum_congr monoid r (λ i. clip R set r (delta R) i i) (λ _. R.one)
      (λ i a. clip-in R set r (delta R) i i a a ∙ delta-same R i)

  pub product_within : (r : ℕ) → r ≤ n → (A M : Mat R n) → Within R r A.0 → Within R r M.0 → Within R r (S.◌⊗◌ A M).0
  product_within r l A M ha hm i k d = corner_product r l A M ha i k ∙ mat_mul_within R set r A.0 M.0 ha hm i k d
