-- Commutative subalgebras that are direct products of fields, given by their idempotents inside the algebra.
-- (Rónyai, Computing the structure of finite algebras, 1990; Pierce, Associative Algebras, chapter 6.)
use Rattle.std.specs.Prelude.{◌≡◌, ℕ, ◌<◌}
use Rattle.theory_rings.specs.Ring.{FieldOn}
use Rattle.theory_rings.specs.Sum.{sum}
use Rattle.theory_spaces.specs.Module.{AlgebraOn}
use Rattle.theory_spaces.specs.Algebra.{IsNilpotent}

module _ {K V : Type 0} (F : FieldOn K) (A : AlgebraOn F.ring V) (S : V → Type 0) where
  infixl 70 ◌⊗◌
  open A use {◌⊗◌}

  -- the members of S commute
  abbrev pub IsCommutativeIn : Type 0
  IsCommutativeIn = (x y : V) → S x → S y → x ⊗ y ≡ y ⊗ x

  -- 0 alone among them is nilpotent
  abbrev pub IsReducedIn : Type 0
  IsReducedIn = (x : V) → S x → IsNilpotent A.ring x → x ≡ A.zero

  -- S is the direct product of `count` fields: orthogonal idempotents of S other than 0 with the sum one, on each of
  -- which each member of S other than 0 has an inverse
  pub record FieldFactors : Type 0 where
    pub count : ℕ
    pub idempotent : ℕ → V
    pub inside : (i : ℕ) → i < count → S (idempotent i)
    pub nonzero : (i : ℕ) → i < count → idempotent i ≡ A.zero → ⊥
    pub idempotents : (i : ℕ) → i < count → idempotent i ⊗ idempotent i ≡ idempotent i
    pub orthogonal : (i j : ℕ) → i < count → j < count → (i ≡ j → ⊥) → idempotent i ⊗ idempotent j ≡ A.zero
    pub sum_to_one : sum A.monoid count idempotent ≡ A.one
    pub field : (i : ℕ) → i < count → (x : V) → S x → idempotent i ⊗ x ≡ x → (x ≡ A.zero → ⊥)
        → (y : V) × S y × (idempotent i ⊗ y ≡ y) × (x ⊗ y ≡ idempotent i)
