-- Weights of the products of the tuples of a basis: by constants over one denominator, and the inverse of the basis'
-- rows.
use Rattle.std.specs.Prelude.{◌≡◌, ◌<◌, ℕ, [], ◌∷◌}
use Rattle.std.proofs.Common.{refl, sym, ◌∙◌, ap}
use Rattle.theory_rings.specs.Ring.{FieldOn}
use Rattle.theory_rings.specs.Sum.{sum}
use Rattle.theory_rings.proofs.Rings.Solver.{◌⊠◌, by_sorted, v0, v1, v2, v3, v4}
use Rattle.theory_rings.proofs.Sums.Sums.{sum_congr, sum_comm, mul-sum}

-- a is d times X, and n is u times the constants
module _ {K : Type 0} (F : FieldOn K) (m : ℕ) (X a : ℕ → ℕ → K) (γ n : ℕ → ℕ → ℕ → K) (d u : K)
    (a-is : (l c : ℕ) → l < m → c < m → F.◌⊗◌ d (X l c) ≡ a l c)
    (n-is : (s t c : ℕ) → s < m → t < m → c < m → n s t c ≡ F.◌⊗◌ u (γ s t c)) where
  infixl 70 ◌⊗◌
  open F use {◌⊗◌}

  -- the product of the rows i and j by the constants n, and that of the vectors by γ
  abbrev pub row_value : ℕ → ℕ → ℕ → K
  row_value i j c = sum F.monoid m (λ t. a j t ⊗ sum F.monoid m (λ s. a i s ⊗ n s t c))

  abbrev pub vector_value : ℕ → ℕ → ℕ → K
  vector_value i j c = sum F.monoid m (λ s. sum F.monoid m (λ t. X i s ⊗ X j t ⊗ γ s t c))

  pub row_value-is : (i j c : ℕ) → i < m → j < m → c < m
      → row_value i j c ≡ F.◌⊗◌ (d ⊗ d ⊗ u) (vector_value i j c)
  row_value-is i j c i_in j_in c_in =
      let e : K = d ⊗ d ⊗ u in
      sum_congr F.monoid m (λ t. a j t ⊗ sum F.monoid m (λ s. a i s ⊗ n s t c))
      (λ t. sum F.monoid m (λ s. e ⊗ (X i s ⊗ X j t ⊗ γ s t c)))
      (λ t t_in. mul-sum F.ring m (a j t) (λ s. a i s ⊗ n s t c)
      ∙ sum_congr F.monoid m (λ s. a j t ⊗ (a i s ⊗ n s t c)) (λ s. e ⊗ (X i s ⊗ X j t ⊗ γ s t c)) (λ s s_in.
      ap (λ z. z ⊗ (a i s ⊗ n s t c)) (sym (a-is j t j_in t_in))
      ∙ ap (λ z. d ⊗ X j t ⊗ (z ⊗ n s t c)) (sym (a-is i s i_in s_in))
      ∙ ap (λ z. d ⊗ X j t ⊗ (d ⊗ X i s ⊗ z)) (n-is s t c s_in t_in c_in)
      ∙ by_sorted F.cring (d ∷ u ∷ X i s ∷ X j t ∷ γ s t c ∷ [])
      ((v0 ⊠ v3) ⊠ ((v0 ⊠ v2) ⊠ (v1 ⊠ v4))) ((v0 ⊠ v0 ⊠ v1) ⊠ ((v2 ⊠ v3) ⊠ v4)) refl))
      ∙ sum_comm F.monoid m m (λ t s. e ⊗ (X i s ⊗ X j t ⊗ γ s t c))
      ∙ sum_congr F.monoid m (λ s. sum F.monoid m (λ t. e ⊗ (X i s ⊗ X j t ⊗ γ s t c)))
      (λ s. e ⊗ sum F.monoid m (λ t. X i s ⊗ X j t ⊗ γ s t c))
      (λ s _. sym (mul-sum F.ring m e (λ t. X i s ⊗ X j t ⊗ γ s t c)))
      ∙ sym (mul-sum F.ring m e (λ s. sum F.monoid m (λ t. X i s ⊗ X j t ⊗ γ s t c)))
