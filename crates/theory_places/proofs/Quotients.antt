-- Sums and products of quotients in a field.
use Rattle.std.specs.Prelude.{◌≡◌, [], ◌∷◌}
use Rattle.std.proofs.Common.{refl, sym, ◌∙◌, ap, ap₂}
use Rattle.theory_rings.specs.Ring.{FieldOn}
use Rattle.theory_rings.proofs.Rings.Fields.{mul-inv, field_mul-ne-zero, mul_left_cancel}
use Rattle.theory_rings.proofs.Rings.Solver.{◌⊞◌, ◌⊠◌, ring3, ring4, by_sorted, v0, v1, v2, v3, v4, var}

module _ {E : Type 0} (k : FieldOn E) where
  infixl 70 ◌⊗◌
  open k use {◌⊗◌, inv, zero}

  pub quotient_same : (a b u v : E) → (b ≡ k.zero → ⊥) → (v ≡ k.zero → ⊥) → a ⊗ v ≡ u ⊗ b → a ⊗ inv b ≡ u ⊗ inv v
  quotient_same a b u v hb hv e =
      mul_left_cancel k (b ⊗ v) (a ⊗ inv b) (u ⊗ inv v) (field_mul-ne-zero k b v hb hv)
      (ring4 k.cring (λ a b v s. ((b ⊠ v) ⊠ (a ⊠ s), (a ⊠ v) ⊠ (b ⊠ s))) refl a b v (inv b)
      ∙ ap₂ k.◌⊗◌ e (mul-inv k b hb ∙ sym (mul-inv k v hv))
      ∙ ring4 k.cring (λ u b v s. ((u ⊠ b) ⊠ (v ⊠ s), (b ⊠ v) ⊠ (u ⊠ s))) refl u b v (inv v))

  pub quotient_add : (a b c d : E) → (b ≡ k.zero → ⊥) → (d ≡ k.zero → ⊥)
      → k.◌⊕◌ (a ⊗ d) (c ⊗ b) ⊗ inv (b ⊗ d) ≡ k.◌⊕◌ (a ⊗ inv b) (c ⊗ inv d)
  quotient_add a b c d hb hd =
      let h = field_mul-ne-zero k b d hb hd in
      mul_left_cancel k (b ⊗ d) (k.◌⊕◌ (a ⊗ d) (c ⊗ b) ⊗ inv (b ⊗ d)) (k.◌⊕◌ (a ⊗ inv b) (c ⊗ inv d)) h
      (ring3 k.cring (λ w n s. (w ⊠ (n ⊠ s), n ⊠ (w ⊠ s))) refl (b ⊗ d) (k.◌⊕◌ (a ⊗ d) (c ⊗ b)) (inv (b ⊗ d))
      ∙ ap (k.◌⊗◌ (k.◌⊕◌ (a ⊗ d) (c ⊗ b))) (mul-inv k (b ⊗ d) h) ∙ k.mul-one (k.◌⊕◌ (a ⊗ d) (c ⊗ b))
      ∙ ap₂ k.◌⊕◌ (sym (k.mul-one (a ⊗ d)) ∙ ap (k.◌⊗◌ (a ⊗ d)) (sym (mul-inv k b hb)))
      (sym (k.mul-one (c ⊗ b)) ∙ ap (k.◌⊗◌ (c ⊗ b)) (sym (mul-inv k d hd)))
      ∙ by_sorted k.cring (a ∷ b ∷ c ∷ d ∷ inv b ∷ inv d ∷ []) ((v0 ⊠ v3) ⊠ (v1 ⊠ v4) ⊞ (v2 ⊠ v1) ⊠ (v3 ⊠ var 5))
      ((v1 ⊠ v3) ⊠ (v0 ⊠ v4 ⊞ v2 ⊠ var 5)) refl)

  pub quotient_mul : (a b c d : E) → (b ≡ k.zero → ⊥) → (d ≡ k.zero → ⊥)
      → (a ⊗ c) ⊗ inv (b ⊗ d) ≡ (a ⊗ inv b) ⊗ (c ⊗ inv d)
  quotient_mul a b c d hb hd =
      let h = field_mul-ne-zero k b d hb hd in
      mul_left_cancel k (b ⊗ d) ((a ⊗ c) ⊗ inv (b ⊗ d)) ((a ⊗ inv b) ⊗ (c ⊗ inv d)) h
      (ring3 k.cring (λ w n s. (w ⊠ (n ⊠ s), n ⊠ (w ⊠ s))) refl (b ⊗ d) (a ⊗ c) (inv (b ⊗ d))
      ∙ ap (k.◌⊗◌ (a ⊗ c)) (mul-inv k (b ⊗ d) h ∙ sym (k.mul-one k.one)
      ∙ ap₂ k.◌⊗◌ (sym (mul-inv k b hb)) (sym (mul-inv k d hd)))
      ∙ by_sorted k.cring (a ∷ b ∷ c ∷ d ∷ inv b ∷ inv d ∷ []) ((v0 ⊠ v2) ⊠ ((v1 ⊠ v4) ⊠ (v3 ⊠ var 5)))
      ((v1 ⊠ v3) ⊠ ((v0 ⊠ v4) ⊠ (v2 ⊠ var 5))) refl)
