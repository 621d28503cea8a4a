-- The q-th power on the centre of an algebra over a field of q elements is linear; so the solutions of z^q = z among
-- combinations of central elements are those with weights that solve linear equations.
use Rattle.std.specs.Prelude.{◌≡◌, ◌↔◌, ◌<◌, ◌≤◌, ◌^◌, ℕ, zero, suc, [], ◌∷◌}
use Rattle.std.proofs.Common.{refl, sym, ◌∙◌, ap, ap₂, subst, arith}
use Rattle.theory_rings.specs.Ring.{FieldOn}
use Rattle.theory_rings.specs.Prime.{IsPrime}
use Rattle.theory_rings.specs.Power.{power, times}
use Rattle.theory_rings.specs.Enumerated.{Enumerated}
use Rattle.theory_rings.proofs.Rings.RingLaws.{add-neg}
use Rattle.theory_rings.proofs.Rings.Solver.{◌⊞◌, minus, v0, v1, v2, v3, by_words}
use Rattle.theory_rings.proofs.Rings.ZeroTests.{eq_of_sub_eq_zero, sub_eq_zero_of_eq}
use Rattle.theory_rings.proofs.Powers.Powers.{power-zero}
use Rattle.theory_rings.proofs.FiniteFields.FiniteFields.{power_size}
use Rattle.theory_spaces.specs.Module.{ModuleOn, AlgebraOn, module_of}
use Rattle.theory_spaces.specs.Linear.{comb, Basis}
use Rattle.theory_spaces.proofs.Linear.Modules.{comb_in, scale-neg}
use Rattle.theory_blocks.specs.FixedPoints.{IsFixed}
use Rattle.theory_blocks.specs.Centre.{Centre}
use Rattle.theory_blocks.proofs.Commutative.FieldFactorsBasis.{space_set}
use Rattle.theory_blocks.proofs.Commutative.CommutingPowers.{add-power_of_commute}
use Rattle.theory_blocks.proofs.Commutative.FixedPoints.{power-scale, times-one, size_pos}
use Rattle.theory_blocks.proofs.Ideals.Centres.{centre_submodule}

module _ {K V : Type 0} (F : FieldOn K) (E : Enumerated K) (A : AlgebraOn F.ring V) (m : ℕ) (B : Basis (module_of A) m)
    (p e : ℕ) (prime : IsPrime p) (char : times F.monoid p F.one ≡ F.zero) (size : E.size ≡ p ^ e) where
  infixl 65 ◌⊕◌
  infixl 70 ◌⊗◌
  infixl 70 ◌•◌
  open A use {ring, ◌⊕◌, ◌⊗◌, ◌•◌, neg}

  abbrev M : ModuleOn F.ring V
  M = module_of A

  abbrev q : ℕ
  q = E.size

  pub power-add_commuting : (x y : V) → x ⊗ y ≡ y ⊗ x → power ring (x ⊕ y) q ≡ power ring x q ⊕ power ring y q
  power-add_commuting x y comm =
      subst (λ n. power ring (x ⊕ y) n ≡ power ring x n ⊕ power ring y n) (sym size)
      (add-power_of_commute ring (space_set F M m B) x y comm p prime (times-one A p char) e)

  module _ (z : ℕ → V) (r : ℕ) (central : (i : ℕ) → i < r → Centre A (z i)) where
    pub power-comb : (n : ℕ) → n ≤ r → (c : ℕ → K) → power ring (comb M n c z) q ≡ comb M n c (λ i. power ring (z i) q)
    power-comb zero l c = power-zero ring q (size_pos F E A)
    power-comb (suc n) l c =
        power-add_commuting (comb M n c z) (c n • z n)
        (comb_in M (Centre A) (centre_submodule A) n c z (λ i g. central i (omega arith)) (c n • z n))
        ∙ ap₂ (λ x y. x ⊕ y) (power-comb n (omega arith) c)
        (power-scale A (c n) (z n) q ∙ ap (λ a. a • power ring (z n) q) (power_size F E (c n)))

    comb-less : (n : ℕ) (c : ℕ → K) (x y : ℕ → V)
        → comb M n c (λ i. x i ⊕ neg (y i)) ≡ comb M n c x ⊕ neg (comb M n c y)
    comb-less zero c x y = sym (add-neg A.additive A.zero)
    comb-less (suc n) c x y =
        ap₂ (λ s t. s ⊕ t) (comb-less n c x y)
        (M.scale-add (c n) (x n) (neg (y n)) ∙ ap (λ t. c n • x n ⊕ t) (scale-neg M (c n) (y n)))
        ∙ by_words ring (comb M n c x ∷ comb M n c y ∷ c n • x n ∷ c n • y n ∷ [])
        ((v0 ⊞ minus v1) ⊞ (v2 ⊞ minus v3)) ((v0 ⊞ v2) ⊞ minus (v1 ⊞ v3)) refl

    -- z^q − z for a combination
    abbrev pub less : ℕ → V
    less i = power ring (z i) q ⊕ neg (z i)

    less-comb : (c : ℕ → K) → comb M r c less ≡ power ring (comb M r c z) q ⊕ neg (comb M r c z)
    less-comb c = comb-less r c (λ i. power ring (z i) q) z
        ∙ ap (λ x. x ⊕ neg (comb M r c z)) (sym (power-comb r (omega arith) c))

    pub fixed_iff : (c : ℕ → K) → IsFixed ring q (comb M r c z) ↔ (comb M r c less ≡ A.zero)
    fixed_iff c = (
      λ h. less-comb c ∙ sub_eq_zero_of_eq A.additive (power ring (comb M r c z) q) (comb M r c z) h,
      λ h. eq_of_sub_eq_zero A.additive (power ring (comb M r c z) q) (comb M r c z) (sym (less-comb c) ∙ h),
    )
