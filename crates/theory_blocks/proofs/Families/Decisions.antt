-- What can be decided: which of two numbers that differ is the smaller, whether one of finitely many has a property,
-- and whether a vector of a space with a basis is 0.
use Rattle.std.specs.Prelude.{◌≡◌, ℕ, ◌<◌, ◌≤◌, ◌⊎◌}
use Rattle.std.proofs.Common.{◌∙◌, ap, arith, inl, inr, ⊎_elim}
use Rattle.std.proofs.lemmas.Bool.{cases_lt}
use Rattle.theory_rings.specs.Ring.{FieldOn}
use Rattle.theory_spaces.specs.Module.{ModuleOn}
use Rattle.theory_spaces.specs.Linear.{Basis}
pub use Rattle.theory_spaces.proofs.Linear.SpanTests.{some_or_all}
use Rattle.theory_spaces.proofs.Linear.Decide.{NotAllZero, pivot}
use Rattle.theory_spaces.proofs.Linear.Spaces.{coords_of}

pub lt_or_gt : (i m : ℕ) → (i ≡ m → ⊥) → (i < m) ⊎ (m < i)
lt_or_gt i m q = ⊎_elim (λ (b : i < m). inl b) (λ (b : m ≤ i). inr (above b)) (cases_lt i m)
  where
    above : m ≤ i → m < i
    above b = ⊎_elim (λ (h : m < i). h) (λ (h : i ≤ m). absurd (q (let e : i ≡ m = omega arith in e))) (cases_lt m i)

module _ {V : Type 0} (origin : V) (dec : (x : V) → (x ≡ origin) ⊎ (x ≡ origin → ⊥)) where
  -- one of n members is not the origin, or all are
  pub other_or_all : (n : ℕ) (v : ℕ → V) → ((i : ℕ) × (i < n) × (v i ≡ origin → ⊥)) ⊎ ((i : ℕ) → i < n → v i ≡ origin)
  other_or_all n v = some_or_all n (λ i. v i ≡ origin → ⊥) (λ i. v i ≡ origin)
      (λ i _. ⊎_elim (λ e. inr e) (λ d. inl d) (dec (v i)))

module _ {K V : Type 0} (F : FieldOn K) (M : ModuleOn F.ring V) (m : ℕ) (B : Basis M m) where
  -- a vector is 0, or one of its coordinates is not
  pub vector_eq_zero_or : (x : V) → (x ≡ M.zero) ⊎ (x ≡ M.zero → ⊥)
  vector_eq_zero_or x = ⊎_elim
      (λ (p : NotAllZero F m (B.coord x)). inr (λ e. p.nonzero (ap (λ y. B.coord y p.place) e ∙ B.coord-zero p.place)))
      (λ h. inl ((coords_of M m B).faithful x h))
      (pivot F m (B.coord x))
