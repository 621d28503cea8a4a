-- The radical of a finite-dimensional algebra as the span of finitely many elements.
use Rattle.std.specs.Prelude.{ℕ, ◌≤◌}
use Rattle.theory_rings.specs.Ring.{RingOn, FieldOn}
use Rattle.theory_spaces.specs.Module.{AlgebraOn, module_of}
use Rattle.theory_spaces.specs.Linear.{Basis, BasisOf, InSpan, Independent}
use Rattle.theory_radical.specs.Ideal.{IsLargestNilpotentIdeal}
use Rattle.theory_radical.specs.LiftRing.{LiftRingOn}
use Rattle.theory_radical.specs.Chain.{Chain}

-- independent elements whose span is the largest nilpotent two-sided ideal
pub record RadicalBasis {K V : Type 0} {R : RingOn K} (A : AlgebraOn R V) : Type 0 where
  pub size : ℕ
  pub vec : ℕ → V
  pub independent : Independent (module_of A) size vec
  pub radical : IsLargestNilpotentIdeal A (InSpan (module_of A) size vec)

-- each member of the chain up to n has a basis
abbrev pub ChainBases : {K W V : Type 0} {F : FieldOn K} {p n : ℕ} (L : LiftRingOn F p n W) (A : AlgebraOn F.ring V)
    (m : ℕ) (B : Basis (module_of A) m) → Type 0
ChainBases {n = n} L A m B = (i : ℕ) → i ≤ n → (r : ℕ) × BasisOf (module_of A) r (Chain L A m B i)
