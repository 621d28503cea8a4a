-- In a commutative algebra over a field of q elements the map x ↦ x^q is linear and keeps products: its fixed points
-- are a subalgebra.
use Rattle.std.specs.Prelude.{◌≡◌, ℕ, zero, suc, ◌<◌}
use Rattle.std.proofs.Common.{sym, ◌∙◌, ap, ap₂, subst, arith}
use Rattle.theory_rings.specs.Ring.{RingOn, CommRingOn, FieldOn}
use Rattle.theory_rings.specs.Power.{power, times}
use Rattle.theory_rings.specs.Enumerated.{Enumerated}
use Rattle.theory_rings.proofs.Powers.Powers.{power-one, power-zero, power-mul}
use Rattle.theory_rings.proofs.Powers.FrobeniusMap.{frobenius_iterate-add}
use Rattle.theory_rings.proofs.FiniteFields.FiniteFields.{power_size}
use Rattle.theory_rings.proofs.Sums.Sums.{sum_congr}
use Rattle.theory_spaces.specs.Module.{AlgebraOn, module_of}
use Rattle.theory_spaces.specs.Subspaces.{Whole}
use Rattle.theory_spaces.proofs.Linear.Modules.{zero-scale, sum-scale}
use Rattle.theory_spaces.proofs.Linear.Subspaces.{whole_submodule}
use Rattle.theory_blocks.specs.FixedPoints.{IsSubalgebra, FixedPointsLaw}

module _ {K V : Type 0} {R : RingOn K} (A : AlgebraOn R V) where
  infixl 70 ◌⊗◌
  infixl 70 ◌•◌
  open A use {ring, ◌⊗◌, ◌•◌}

  -- (c·x)^n = c^n·x^n
  pub power-scale : (c : K) (x : V) (n : ℕ) → power ring (c • x) n ≡ power R c n • power ring x n
  power-scale c x zero = sym (A.one-scale A.one)
  power-scale c x (suc n) =
      ap (λ y. (c • x) ⊗ y) (power-scale c x n)
      ∙ A.scale-left c x (power R c n • power ring x n)
      ∙ ap (λ y. c • y) (A.scale-right (power R c n) x (power ring x n))
      ∙ sym (A.mul-scale c (power R c n) (x ⊗ power ring x n))

  -- a multiple of x by a number is one by a scalar
  times-scale : (n : ℕ) (x : V) → times A.monoid n x ≡ times R.monoid n R.one • x
  times-scale n x = sum_congr A.monoid n (λ _. x) (λ _. R.one • x) (λ i _. sym (A.one-scale x))
      ∙ sym (sum-scale (module_of A) n (λ _. R.one) x)

  -- the characteristic of the scalars
  pub times-one : (n : ℕ) → times R.monoid n R.one ≡ R.zero → times A.monoid n A.one ≡ A.zero
  times-one n char = times-scale n A.one ∙ ap (λ c. c • A.one) char ∙ zero-scale (module_of A) A.one

  pub whole_subalgebra : IsSubalgebra A Whole
  whole_subalgebra = record { subspace = whole_submodule (module_of A); one-in = tt; mul-in = λ x y s t. tt }

module _ {K V : Type 0} (F : FieldOn K) (E : Enumerated K) (A : AlgebraOn F.ring V) where
  pub size_pos : 0 < E.size
  size_pos = let l = E.number-lt F.zero in omega arith

  pub fixed_points : FixedPointsLaw F E A
  fixed_points comm p i prime char size =
      let C : CommRingOn V = record { ring = A.ring; mul_comm = comm } in
      record {
        subspace = record {
          zero-in = power-zero A.ring E.size size_pos;
          add-in = λ x y hx hy.
              subst (λ q. power A.ring (A.◌⊕◌ x y) q ≡ A.◌⊕◌ (power A.ring x q) (power A.ring y q)) (sym size)
              (frobenius_iterate-add C p prime (times-one A p char) i x y)
              ∙ ap₂ (λ u v. A.◌⊕◌ u v) hx hy;
          scale-in = λ c x hx. power-scale A c x E.size ∙ ap₂ (λ u v. A.◌•◌ u v) (power_size F E c) hx;
        };
        one-in = power-one A.ring E.size;
        mul-in = λ x y hx hy. power-mul A.ring x y (comm x y) E.size ∙ ap₂ (λ u v. A.◌⊗◌ u v) hx hy;
      }
