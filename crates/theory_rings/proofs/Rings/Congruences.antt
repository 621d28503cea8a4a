-- Congruence modulo an element of a commutative ring: an equivalence that the operations keep.
use Rattle.std.specs.Prelude.{◌≡◌}
use Rattle.std.proofs.Common.{refl, sym, ◌∙◌, ap, ap₂}
use Rattle.theory_rings.specs.Ring.{CommRingOn}
use Rattle.theory_rings.specs.Division.{Congruent}
use Rattle.theory_rings.proofs.Rings.RingLaws.{add-zero, zero-mul}
use Rattle.theory_rings.proofs.Rings.Solver.{◌⊞◌, ◌⊠◌, minus, ring3, ring4, ring5}

module _ {D : Type 0} (C : CommRingOn D) (m : D) where
  infixl 65 ◌⊕◌
  infixl 70 ◌⊗◌
  open C use {zero, one, ◌⊕◌, ◌⊗◌, neg}

  pub congruent_of_eq : (a b : D) → a ≡ b → Congruent C m a b
  congruent_of_eq a b e = (zero, e ∙ sym (ap (λ x. b ⊕ x) (zero-mul C.ring m) ∙ add-zero C.monoid b))

  pub congruent_sym : (a b : D) → Congruent C m a b → Congruent C m b a
  congruent_sym a b s = (
    neg s.0,
    ring3 C (λ b s m. (b, (b ⊞ s ⊠ m) ⊞ minus s ⊠ m)) refl b s.0 m ∙ ap (λ x. x ⊕ neg s.0 ⊗ m) (sym s.1),
  )

  pub congruent_trans : (a b c : D) → Congruent C m a b → Congruent C m b c → Congruent C m a c
  congruent_trans a b c s t = (
    t.0 ⊕ s.0,
    s.1 ∙ ap (λ x. x ⊕ s.0 ⊗ m) t.1 ∙ ring4 C (λ c t s m. ((c ⊞ t ⊠ m) ⊞ s ⊠ m, c ⊞ (t ⊞ s) ⊠ m)) refl c t.0 s.0 m,
  )

  pub congruent-add : (a a' b b' : D) → Congruent C m a a' → Congruent C m b b' → Congruent C m (a ⊕ b) (a' ⊕ b')
  congruent-add a a' b b' s t = (
    s.0 ⊕ t.0,
    ap₂ (λ x y. x ⊕ y) s.1 t.1
        ∙ ring5 C (λ a b s t m. ((a ⊞ s ⊠ m) ⊞ (b ⊞ t ⊠ m), (a ⊞ b) ⊞ (s ⊞ t) ⊠ m)) refl a' b' s.0 t.0 m,
  )

  pub congruent-neg : (a a' : D) → Congruent C m a a' → Congruent C m (neg a) (neg a')
  congruent-neg a a' s =
      (neg s.0, ap neg s.1 ∙ ring3 C (λ a s m. (minus (a ⊞ s ⊠ m), minus a ⊞ minus s ⊠ m)) refl a' s.0 m)

  pub congruent-mul : (a a' b b' : D) → Congruent C m a a' → Congruent C m b b' → Congruent C m (a ⊗ b) (a' ⊗ b')
  congruent-mul a a' b b' s t = (
    (s.0 ⊗ b' ⊕ a' ⊗ t.0) ⊕ (s.0 ⊗ m) ⊗ t.0,
    ap₂ (λ x y. x ⊗ y) s.1 t.1
        ∙ ring5 C (λ a b s t m.
        ((a ⊞ s ⊠ m) ⊠ (b ⊞ t ⊠ m), a ⊠ b ⊞ ((s ⊠ b ⊞ a ⊠ t) ⊞ (s ⊠ m) ⊠ t) ⊠ m)) refl a' b' s.0 t.0 m,
  )
