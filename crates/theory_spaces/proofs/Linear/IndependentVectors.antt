-- Independent vectors: none is 0, they are a basis of their span, and they are no more than those of a basis.
use Rattle.std.specs.Prelude.{◌≡◌, ℕ, ◌<◌, ◌≤◌}
use Rattle.std.proofs.Common.{sym, ◌∙◌, ap}
use Rattle.theory_rings.specs.Ring.{RingOn, FieldOn}
use Rattle.theory_rings.proofs.Sums.Sums.{sum_eq_single}
use Rattle.theory_spaces.specs.Module.{ModuleOn}
use Rattle.theory_spaces.specs.Linear.{comb, InSpan, Independent, Basis, BasisOf}
use Rattle.theory_spaces.specs.Matrix.{delta}
use Rattle.theory_spaces.proofs.Linear.Modules.{zero-scale, InSpan-member}
use Rattle.theory_spaces.proofs.Matrices.Matrices.{delta-same, delta-other}
use Rattle.theory_spaces.proofs.Linear.Dimension.{exchange}

module _ {K V : Type 0} {R : RingOn K} (M : ModuleOn R V) where
  -- the combination with weight 1 at j and else 0 is vector j
  pub comb-delta : (n j : ℕ) (v : ℕ → V) → j < n → comb M n (delta R j) v ≡ v j
  comb-delta n j v l =
      sum_eq_single M.monoid n j (λ i. M.◌•◌ (delta R j i) (v i)) l
      (λ i _ d. ap (λ a. M.◌•◌ a (v i)) (delta-other R j i (λ e. d (sym e))) ∙ zero-scale M (v i))
      ∙ ap (λ a. M.◌•◌ a (v j)) (delta-same R j) ∙ M.one-scale (v j)

  -- no independent vector is 0
  pub Independent-ne-zero : (R.one ≡ R.zero → ⊥) → (n : ℕ) (v : ℕ → V) → Independent M n v → (j : ℕ) → j < n
      → v j ≡ M.zero → ⊥
  Independent-ne-zero d n v h j l e = d (sym (delta-same R j) ∙ h.only_zero (delta R j) (comb-delta n j v l ∙ e) j l)

  -- they are a basis of their span
  abbrev pub BasisOf-span : (n : ℕ) (v : ℕ → V) → Independent M n v → BasisOf M n (InSpan M n v)
  BasisOf-span n v h = record { vec = v; independent = h; inside = λ j l. InSpan-member M n j v l; spans = λ x s. s }

-- independent vectors are no more than those of a basis
pub Independent-at_most : {K V : Type 0} (F : FieldOn K) (M : ModuleOn F.ring V) (n : ℕ) → Basis M n
    → (k : ℕ) (u : ℕ → V) → Independent M k u → k ≤ n
Independent-at_most F M n B k u h =
    exchange F M k n u B.vec h (λ i l. record { weights = B.coord (u i); combines = B.expand (u i) })
