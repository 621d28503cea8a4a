-- What follows from the laws of a field.
use Rattle.std.specs.Prelude.{◌≡◌, ◌≢◌, ◌⊎◌}
use Rattle.std.proofs.Common.{sym, ◌∙◌, ap, inl, inr, ⊎_elim}
use Rattle.theory_rings.specs.Ring.{FieldOn}
use Rattle.theory_rings.proofs.Rings.RingLaws.{mul-zero, eq_zero_of_mul-unit}
use Rattle.theory_rings.proofs.Rings.ZeroTests.{eq_zero_or, group_set}

module _ {K : Type 0} (F : FieldOn K) where
  infixl 70 ◌⊗◌
  open F use {ring, zero, one, ◌⊗◌, inv}

  pub mul-inv : (a : K) → a ≢ zero → a ⊗ inv a ≡ one
  mul-inv a h = F.mul_comm a (inv a) ∙ F.inv-mul a h

  pub field_mul-ne-zero : (a b : K) → a ≢ zero → b ≢ zero → a ⊗ b ≢ zero
  field_mul-ne-zero a b ha hb e = ha (eq_zero_of_mul-unit ring a b (inv b) (mul-inv b hb) e)

  pub inv-ne-zero : (a : K) → a ≢ zero → inv a ≢ zero
  inv-ne-zero a h e = F.one-nonzero (sym (mul-inv a h) ∙ ap (λ x. a ⊗ x) e ∙ mul-zero ring a)

  pub inv_mul_cancel_right : (a b : K) → b ≢ zero → (a ⊗ inv b) ⊗ b ≡ a
  inv_mul_cancel_right a b h = F.mul_assoc a (inv b) b ∙ ap (λ x. a ⊗ x) (F.inv-mul b h) ∙ F.mul-one a

  pub inv_mul_cancel_left : (a b : K) → a ≢ zero → inv a ⊗ (a ⊗ b) ≡ b
  inv_mul_cancel_left a b h = sym (F.mul_assoc (inv a) a b) ∙ ap (λ x. x ⊗ b) (F.inv-mul a h) ∙ F.one-mul b

  -- a factor that is not 0 can be taken off
  pub mul_left_cancel : (a b c : K) → a ≢ zero → a ⊗ b ≡ a ⊗ c → b ≡ c
  mul_left_cancel a b c h e = sym (inv_mul_cancel_left a b h) ∙ ap (λ x. inv a ⊗ x) e ∙ inv_mul_cancel_left a c h

  -- a product is 0 only by a factor
  pub eq-zero_of_mul-eq-zero : (a b : K) → a ⊗ b ≡ zero → (a ≡ zero) ⊎ (b ≡ zero)
  eq-zero_of_mul-eq-zero a b e = ⊎_elim
      (λ (z : a ≡ zero). inl z)
      (λ (h : a ≢ zero). inr (mul_left_cancel a b zero h (e ∙ sym (mul-zero ring a))))
      (eq_zero_or F.zero_test a)

  pub field_set : IsSet K
  field_set = group_set F.additive F.zero_test
