-- Coprime polynomials over a field stay coprime under multiples and sums with multiples; lowest terms of fractions that
-- are combined.
use Rattle.std.specs.Prelude.{◌≡◌, [], ◌∷◌}
use Rattle.std.proofs.Common.{refl, ◌∙◌, ap, ap₂}
use Rattle.theory_rings.specs.Ring.{FieldOn, CommRingOn}
use Rattle.theory_rings.specs.Polynomial.{Poly}
use Rattle.theory_rings.specs.Division.{IsCoprime}
use Rattle.theory_rings.proofs.Rings.Solver.{◌⊞◌, ◌⊠◌, minus, v0, v1, v2, v3, v4, var, by_sorted, ring4, ring5}
use Rattle.theory_rings.proofs.Polynomials.Bezout.{field_polynomials, bezout, coprime_of_bezout}

module _ {K : Type 0} (F : FieldOn K) where
  abbrev P : CommRingOn (Poly F.cring)
  P = field_polynomials F

  abbrev Coprime : Poly F.cring → Poly F.cring → Type 0
  Coprime = IsCoprime F.cring P

  -- both times a unit
  pub coprime-mul_unit : (u v k l : Poly F.cring) → P.◌⊗◌ k l ≡ P.one → Coprime u v → Coprime (P.◌⊗◌ k u) (P.◌⊗◌ k v)
  coprime-mul_unit u v k l e c =
      let b = bezout F u v c in
      coprime_of_bezout F (P.◌⊗◌ k u) (P.◌⊗◌ k v) (P.◌⊗◌ b.0 l) (P.◌⊗◌ b.1 l)
      (by_sorted P (b.0 ∷ l ∷ k ∷ u ∷ b.1 ∷ v ∷ []) (v0 ⊠ v1 ⊠ (v2 ⊠ v3) ⊞ v4 ⊠ v1 ⊠ (v2 ⊠ var 5))
      (v2 ⊠ v1 ⊠ (v0 ⊠ v3 ⊞ v4 ⊠ var 5)) refl
      ∙ ap₂ P.◌⊗◌ e b.2 ∙ P.one-mul P.one)

  -- one times a unit
  pub coprime-unit_mul : (u v k l : Poly F.cring) → P.◌⊗◌ k l ≡ P.one → Coprime u v → Coprime (P.◌⊗◌ k u) v
  coprime-unit_mul u v k l e c =
      let b = bezout F u v c in
      coprime_of_bezout F (P.◌⊗◌ k u) v (P.◌⊗◌ b.0 l) b.1
      (by_sorted P (b.0 ∷ l ∷ k ∷ u ∷ b.1 ∷ v ∷ []) (v0 ⊠ v1 ⊠ (v2 ⊠ v3) ⊞ v4 ⊠ var 5)
      (v0 ⊠ (v2 ⊠ v1 ⊠ v3) ⊞ v4 ⊠ var 5) refl
      ∙ ap (λ x. P.◌⊕◌ (P.◌⊗◌ b.0 (P.◌⊗◌ x u)) (P.◌⊗◌ b.1 v)) e
      ∙ ap (λ x. P.◌⊕◌ (P.◌⊗◌ b.0 x) (P.◌⊗◌ b.1 v)) (P.one-mul u) ∙ b.2)

  -- a sum with a multiple of the other
  pub coprime-add_mul : (u v p : Poly F.cring) → Coprime u v → Coprime (P.◌⊕◌ u (P.◌⊗◌ p v)) v
  coprime-add_mul u v p c =
      let b = bezout F u v c in
      coprime_of_bezout F (P.◌⊕◌ u (P.◌⊗◌ p v)) v b.0 (P.◌⊕◌ b.1 (P.neg (P.◌⊗◌ b.0 p)))
      (ring5 P (λ s u p v t. (s ⊠ (u ⊞ p ⊠ v) ⊞ (t ⊞ minus (s ⊠ p)) ⊠ v, s ⊠ u ⊞ t ⊠ v)) refl b.0 u p v b.1 ∙ b.2)

  pub coprime-neg : (u v : Poly F.cring) → Coprime u v → Coprime (P.neg u) v
  coprime-neg u v c =
      let b = bezout F u v c in
      coprime_of_bezout F (P.neg u) v (P.neg b.0) b.1
      (ring4 P (λ s u t v. (minus s ⊠ minus u ⊞ t ⊠ v, s ⊠ u ⊞ t ⊠ v)) refl b.0 u b.1 v ∙ b.2)
