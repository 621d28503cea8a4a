-- So in an algebra of such a dimension and centre some element other than 0 has no left inverse, which a search finds.
use Rattle.std.specs.Prelude.{◌≡◌, ℕ, ◌≤◌, ◌⊎◌}
use Rattle.std.proofs.Common.{inl, inr, ⊎_elim}
use Rattle.theory_rings.specs.Ring.{FieldOn}
use Rattle.theory_rings.specs.Enumerated.{Enumerated}
use Rattle.theory_spaces.specs.Module.{AlgebraOn, module_of}
use Rattle.theory_spaces.specs.Linear.{Basis}
use Rattle.theory_spaces.specs.Algebra.{Central}
use Rattle.theory_division.specs.DivisionRing.{Nonunit}
use Rattle.theory_division.proofs.Counts.{equal_or_not, search_all}
use Rattle.theory_division.proofs.Members.{numbered}
use Rattle.theory_division.proofs.NoDivisionRing.{no_division_ring}

module _ {K D : Type 0} (F : FieldOn K) (EK : Enumerated K) (A : AlgebraOn F.ring D) (m : ℕ) (B : Basis (module_of A) m)
    (central : Central A) (enough : 2 ≤ m) (bounded : m ≤ 36) where
  infixl 70 ◌⊗◌
  open A use {◌⊗◌}

  pub nonunit_exists : (x : D) × Nonunit A.ring x
  nonunit_exists =
      let E = numbered F (module_of A) EK m B in
      let Inverse : D → Type 0 = λ x. (y : D) × (y ⊗ x ≡ A.one) in
      let inverse_or : (x : D) → Inverse x
      ⊎ ((y : D) → y ⊗ x ≡ A.one → ⊥) = λ x.
      search_all E (λ y. y ⊗ x ≡ A.one) (λ y. equal_or_not E (y ⊗ x) A.one) in
      ⊎_elim
      (λ (r : (x : D) × Nonunit A.ring x). r)
      (λ (r : (x : D) → Nonunit A.ring x → ⊥). absurd (no_division_ring F EK A m B central enough bounded
      (λ x d. ⊎_elim (λ (i : Inverse x). i)
      (λ (i : (y : D) → y ⊗ x ≡ A.one → ⊥). absurd (r x (record { not_zero = d; no_inverse = i })))
      (inverse_or x))))
      (search_all E (Nonunit A.ring) (λ x. ⊎_elim
      (λ (e : x ≡ A.zero). inr (λ n. n.not_zero e))
      (λ (d : x ≡ A.zero → ⊥). ⊎_elim
      (λ (i : Inverse x). inr (λ n. n.no_inverse i.0 i.1))
      (λ (i : (y : D) → y ⊗ x ≡ A.one → ⊥). inl (record { not_zero = d; no_inverse = i }))
      (inverse_or x))
      (equal_or_not E x A.zero)))
