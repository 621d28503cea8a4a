-- Two-sided ideals of a ring, and nilpotent ones. In an algebra over a field they are subspaces.
-- (Pierce, Associative Algebras, chapter 4.)
use Rattle.std.specs.Prelude.{◌≡◌, ℕ}
use Rattle.theory_rings.specs.Ring.{RingOn}
use Rattle.theory_rings.specs.Power.{power}
use Rattle.theory_spaces.specs.Module.{AlgebraOn, module_of}
use Rattle.theory_spaces.specs.Linear.{InSpan, IsSubmodule}
use Rattle.theory_spaces.specs.Algebra.{IsNilpotent}
use Rattle.theory_spaces.specs.Subspaces.{Whole}
use Rattle.theory_spaces.specs.Sets as sets
use Rattle.theory_spaces.specs.Sets.{ring_ops}

module _ {V : Type 0} (R : RingOn V) where
  -- a (n − 1) · .. · a 0
  abbrev pub product : (ℕ → V) → ℕ → V
  product = sets.product (ring_ops R) R.one

  -- closed under sums, and under products with all elements from both sides
  abbrev pub IsIdeal : (V → Type 0) → Type 0
  IsIdeal J = sets.IsIdeal (ring_ops R) Whole J

  -- products of n members are 0
  abbrev pub ProductsVanish : (V → Type 0) → ℕ → Type 0
  ProductsVanish = sets.ProductsVanish (ring_ops R) R.one

  -- an ideal of which some power is 0
  abbrev pub IsNilpotentIdeal : (V → Type 0) → Type 0
  IsNilpotentIdeal = sets.IsNilpotentIdeal (ring_ops R) R.one Whole

module _ {K V : Type 0} {R : RingOn K} (A : AlgebraOn R V) where
  -- a subspace that is closed under products, in which each element is nilpotent
  pub record IsNilSubalgebra (J : V → Type 0) : Type 0 where
    pub subspace : IsSubmodule (module_of A) J
    pub mul-in : (x y : V) → J x → J y → J (A.◌⊗◌ x y)
    pub nilpotent : (x : V) → J x → IsNilpotent A.ring x

  -- a nilpotent ideal that holds each nilpotent ideal. In an algebra of finite dimension an ideal is the span of
  -- finitely many elements
  pub record IsLargestNilpotentIdeal (J : V → Type 0) : Type 0 where
    pub nilpotent : IsNilpotentIdeal A.ring J
    pub largest : (n : ℕ) (g : ℕ → V) → IsNilpotentIdeal A.ring (InSpan (module_of A) n g) → (x : V)
        → InSpan (module_of A) n g x → J x

-- h commutes with a, and a·h is an idempotent that keeps a power of a. It is 0 only where a is nilpotent
pub record FittingIdempotent {V : Type 0} (R : RingOn V) (a : V) : Type 0 where
  pub cofactor : V
  pub commutes : R.◌⊗◌ a cofactor ≡ R.◌⊗◌ cofactor a
  pub idempotent : R.◌⊗◌ (R.◌⊗◌ a cofactor) (R.◌⊗◌ a cofactor) ≡ R.◌⊗◌ a cofactor
  pub exponent : ℕ
  pub keeps : R.◌⊗◌ (power R a exponent) (R.◌⊗◌ a cofactor) ≡ power R a exponent
