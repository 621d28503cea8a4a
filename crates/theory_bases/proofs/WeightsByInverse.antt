-- Weights by the inverse of a matrix: what rows over a denominator combine to a vector.
use Rattle.std.specs.Prelude.{◌≡◌, ◌≢◌, ◌<◌, ℕ}
use Rattle.std.proofs.Common.{refl, sym, ◌∙◌, ap, ap₂}
use Rattle.theory_rings.specs.Ring.{FieldOn}
use Rattle.theory_rings.specs.Sum.{sum}
use Rattle.theory_rings.proofs.Rings.Fields.{mul_left_cancel}
use Rattle.theory_rings.proofs.Rings.Solver.{◌⊠◌, ring3, ring4}
use Rattle.theory_rings.proofs.Sums.Sums.{sum_congr, sum_comm, mul-sum, sum-mul}
use Rattle.theory_spaces.specs.Matrix.{delta}
use Rattle.theory_spaces.proofs.Matrices.Matrices.{sum-mul_delta}

-- a is d times X, and r times a is s on the diagonal; p is e times q
module _ {K : Type 0} (F : FieldOn K) (m : ℕ) (X a r : ℕ → ℕ → K) (d s : K)
    (a-is : (l c : ℕ) → l < m → c < m → F.◌⊗◌ d (X l c) ≡ a l c)
    (inverse : (i j : ℕ) → i < m → j < m
    → sum F.monoid m (λ l. F.◌⊗◌ (r i l) (a l j)) ≡ F.◌⊗◌ s (delta F.ring i j))
    (p q : ℕ → K) (e : K) (p-is : (c : ℕ) → c < m → p c ≡ F.◌⊗◌ e (q c)) where
  infixl 70 ◌⊗◌
  open F use {◌⊗◌}

  -- p times r
  abbrev pub weight : ℕ → K
  weight l = sum F.monoid m (λ c. p c ⊗ r c l)

  weighted : (c : ℕ) → c < m → sum F.monoid m (λ l. weight l ⊗ a l c) ≡ s ⊗ p c
  weighted c c_in =
      sum_congr F.monoid m (λ l. weight l ⊗ a l c) (λ l. sum F.monoid m (λ t. p t ⊗ r t l ⊗ a l c))
      (λ l _. sum-mul F.ring m (a l c) (λ t. p t ⊗ r t l))
      ∙ sum_comm F.monoid m m (λ l t. p t ⊗ r t l ⊗ a l c)
      ∙ sum_congr F.monoid m (λ t. sum F.monoid m (λ l. p t ⊗ r t l ⊗ a l c)) (λ t. (s ⊗ p t) ⊗ delta F.ring t c)
      (λ t t_in.
      sum_congr F.monoid m (λ l. p t ⊗ r t l ⊗ a l c) (λ l. p t ⊗ (r t l ⊗ a l c))
      (λ l _. F.mul_assoc (p t) (r t l) (a l c))
      ∙ sym (mul-sum F.ring m (p t) (λ l. r t l ⊗ a l c))
      ∙ ap (λ z. p t ⊗ z) (inverse t c t_in c_in)
      ∙ ring3 F.cring (λ p s d. (p ⊠ (s ⊠ d), (s ⊠ p) ⊠ d)) refl (p t) s (delta F.ring t c))
      ∙ sum-mul_delta F.ring m (λ t. s ⊗ p t) c c_in

  -- D·x is g times the weights
  module _ (x : ℕ → K) (D g : K) (nonzero : D ⊗ d ≢ F.zero) (whole : D ⊗ d ≡ s ⊗ e ⊗ g)
      (x-is : (l : ℕ) → l < m → D ⊗ x l ≡ g ⊗ weight l) where
    pub weights_combine : (c : ℕ) → c < m → sum F.monoid m (λ l. x l ⊗ X l c) ≡ q c
    weights_combine c c_in =
        let left : K = sum F.monoid m (λ l. x l ⊗ X l c) in
        mul_left_cancel F (D ⊗ d) left (q c) nonzero
        (mul-sum F.ring m (D ⊗ d) (λ l. x l ⊗ X l c)
        ∙ sum_congr F.monoid m (λ l. D ⊗ d ⊗ (x l ⊗ X l c)) (λ l. g ⊗ (weight l ⊗ a l c)) (λ l l_in.
        ring4 F.cring (λ D d x y. ((D ⊠ d) ⊠ (x ⊠ y), (D ⊠ x) ⊠ (d ⊠ y))) refl D d (x l) (X l c)
        ∙ ap₂ F.◌⊗◌ (x-is l l_in) (a-is l c l_in c_in)
        ∙ F.mul_assoc g (weight l) (a l c))
        ∙ sym (mul-sum F.ring m g (λ l. weight l ⊗ a l c))
        ∙ ap (λ z. g ⊗ z) (weighted c c_in ∙ ap (λ z. s ⊗ z) (p-is c c_in))
        ∙ ring4 F.cring (λ g s e q. (g ⊠ (s ⊠ (e ⊠ q)), (s ⊠ e ⊠ g) ⊠ q)) refl g s e (q c)
        ∙ ap (λ z. z ⊗ q c) (sym whole))
