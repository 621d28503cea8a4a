-- A linear map has one trace, whatever the basis.
use Rattle.std.specs.Prelude.{◌≡◌, ℕ}
use Rattle.std.proofs.Common.{sym, ◌∙◌, ap}
use Rattle.theory_rings.specs.Ring.{CommRingOn}
use Rattle.theory_rings.specs.Sum.{sum}
use Rattle.theory_rings.proofs.Sums.Sums.{sum_congr}
use Rattle.theory_spaces.specs.Module.{ModuleOn, AlgebraOn, module_of}
use Rattle.theory_spaces.specs.Linear.{Basis, IsLinear}
use Rattle.theory_spaces.specs.Algebra.{map_trace, trace}
use Rattle.theory_spaces.proofs.Linear.Modules.{map-comb, left_linear}
use Rattle.theory_spaces.proofs.Matrices.Matrices.{mat_trace_comm}
use Rattle.theory_spaces.proofs.Linear.Spaces.{coords_of, coord-comb}

-- bases of n and of m vectors: over a field n = m, but the traces agree over each commutative ring
module _ {K V : Type 0} (C : CommRingOn K) (M : ModuleOn C.ring V) (n m : ℕ) (B : Basis M n) (D : Basis M m) where
  infixl 70 ◌⊗◌
  open C use {monoid, ◌⊗◌}

  pub map_trace_basis : (f : V → V) → IsLinear M M f → map_trace M n B f ≡ map_trace M m D f
  map_trace_basis f h =
      let P = λ (j k : ℕ). D.coord (B.vec j) k in
      let Q = λ (k j : ℕ). B.coord (f (D.vec k)) j in
      sum_congr monoid n (λ j. B.coord (f (B.vec j)) j) (λ j. sum monoid m (λ k. P j k ⊗ Q k j))
      (λ j _. ap (λ x. B.coord (f x) j) (D.expand (B.vec j)) ∙ ap (λ x. B.coord x j) (map-comb M M f h m (P j) D.vec)
      ∙ coord-comb M n (coords_of M n B) m (P j) (λ k. f (D.vec k)) j)
      ∙ mat_trace_comm C n m P Q
      ∙ sym (sum_congr monoid m (λ k. D.coord (f (D.vec k)) k) (λ k. sum monoid n (λ j. Q k j ⊗ P j k))
      (λ k _. ap (λ x. D.coord x k) (B.expand (f (D.vec k))) ∙ coord-comb M m (coords_of M m D) n (Q k) B.vec k))

-- so has each element of an algebra
pub trace_basis : {K V : Type 0} (C : CommRingOn K) (A : AlgebraOn C.ring V) (n m : ℕ) (B : Basis (module_of A) n)
    (D : Basis (module_of A) m) (x : V)
    → trace A n B x ≡ trace A m D x
trace_basis C A n m B D x = map_trace_basis C (module_of A) n m B D (λ y. A.◌⊗◌ x y) (left_linear A x)
