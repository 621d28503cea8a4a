-- An algebra without nilpotent ideals but 0. An element x with x·a·x = 0 for all a is 0, since the square of the ideal
-- that it generates is 0; so a nilpotent element of the centre is 0.
use Rattle.std.specs.Prelude.{◌≡◌, ℕ, zero, suc, ◌+◌, ◌*◌, ◌/◌, ◌%◌}
use Rattle.std.proofs.Common.{refl, sym, ◌∙◌, ap, arith}
use Rattle.theory_rings.specs.Ring.{FieldOn}
use Rattle.theory_rings.specs.Power.{power}
use Rattle.theory_rings.proofs.Rings.RingLaws.{mul-zero, zero-mul}
use Rattle.theory_rings.proofs.Powers.Powers.{power-add, power_commutes}
use Rattle.theory_spaces.specs.Module.{ModuleOn, AlgebraOn, module_of}
use Rattle.theory_spaces.specs.Linear.{Basis}
use Rattle.theory_spaces.proofs.Linear.Modules.{left_linear, right_linear, linear_comp, linear_id}
use Rattle.theory_spaces.proofs.Algebras.GeneratedIdeals as generated
use Rattle.theory_radical.specs.Ideal.{IsNilpotentIdeal}
use Rattle.theory_blocks.specs.Centre.{Centre}
use Rattle.theory_blocks.specs.MaximalIdeals.{HasNoNilpotentIdeal, CentreIsReduced}
use Rattle.theory_blocks.proofs.Families.Spans.{linear_eq_zero}

module _ {K V : Type 0} (F : FieldOn K) (A : AlgebraOn F.ring V) (m : ℕ) (B : Basis (module_of A) m) where
  infixl 70 ◌⊗◌
  open A use {ring, ◌⊗◌}

  abbrev M : ModuleOn F.ring V
  M = module_of A

  module _ (x : V) where
    abbrev around : ℕ → V
    around = generated.around A m B x

    abbrev In : V → Type 0
    In = generated.Around A m B x

    module _ (h : (a : V) → (x ⊗ a) ⊗ x ≡ A.zero) where
      -- a member times a·x is 0
      member_times : (y a : V) → In y → (y ⊗ a) ⊗ x ≡ A.zero
      member_times y a s = linear_eq_zero M M (λ z. (z ⊗ a) ⊗ x)
          (linear_comp M M M (λ z. z ⊗ x) (λ z. z ⊗ a) (right_linear A x) (right_linear A a)) (m * m) around
          (λ t _. simp A.mul_assoc refl
          ∙ ap (λ z. B.vec (t / m) ⊗ z) (sym (A.mul_assoc x (B.vec (t % m) ⊗ a) x) ∙ h (B.vec (t % m) ⊗ a))
          ∙ mul-zero ring (B.vec (t / m)))
          y s

      square_vanishes : (y z : V) → In y → In z → y ⊗ z ≡ A.zero
      square_vanishes y z sy sz = linear_eq_zero M M (λ w. y ⊗ w) (left_linear A y) (m * m) around
          (λ t _. sym (A.mul_assoc y (B.vec (t / m) ⊗ x) (B.vec (t % m)))
          ∙ ap (λ w. w ⊗ B.vec (t % m)) (sym (A.mul_assoc y (B.vec (t / m)) x) ∙ member_times y (B.vec (t / m)) sy)
          ∙ zero-mul ring (B.vec (t % m)))
          z sz

      around_nilpotent : IsNilpotentIdeal ring In
      around_nilpotent = record {
        ideal = generated.around_ideal A m B x;
        exponent = 2;
        vanishes = λ a g. ap (λ w. a 1 ⊗ w) (A.mul-one (a 0)) ∙ square_vanishes (a 1) (a 0) (g 1) (g 0);
      }

  module _ (none : HasNoNilpotentIdeal A) where
    pub semiprime : (x : V) → ((a : V) → (x ⊗ a) ⊗ x ≡ A.zero) → x ≡ A.zero
    semiprime x h =
        sym (A.mul-one (A.one ⊗ x) ∙ A.one-mul x)
        ∙ linear_eq_zero M M (λ y. y) (linear_id M) (m * m) (around x) (none (m * m) (around x) (around_nilpotent x h))
        ((A.one ⊗ x) ⊗ A.one) (generated.around-in A m B x A.one A.one)

    module _ (x : V) (central : Centre A x) where
      power_shrinks : (n : ℕ) → power ring x (suc (suc n)) ≡ A.zero → power ring x (suc n) ≡ A.zero
      power_shrinks n e =
          let w = power ring x (suc n) in
          let square : w ⊗ w ≡ A.zero =
          sym (power-add ring x (suc n) (suc n))
          ∙ (let q : suc n + suc n ≡ suc (suc n) + n = omega arith in ap (power ring x) q)
          ∙ power-add ring x (suc (suc n)) n ∙ ap (λ y. y ⊗ power ring x n) e ∙ zero-mul ring (power ring x n) in
          semiprime w (λ a. ap (λ y. y ⊗ w) (sym (power_commutes ring x a (sym (central a)) (suc n)))
          ∙ A.mul_assoc a w w ∙ ap (λ y. a ⊗ y) square ∙ mul-zero ring a)

      eq_zero_of_power : (n : ℕ) → power ring x n ≡ A.zero → x ≡ A.zero
      eq_zero_of_power zero e = sym (A.one-mul x) ∙ ap (λ y. y ⊗ x) e ∙ zero-mul ring x
      eq_zero_of_power (suc zero) e = sym (A.mul-one x) ∙ e
      eq_zero_of_power (suc (suc n)) e = eq_zero_of_power (suc n) (power_shrinks n e)

  pub centre_is_reduced : CentreIsReduced A
  centre_is_reduced none x central h = eq_zero_of_power none x central h.exponent h.vanishes
