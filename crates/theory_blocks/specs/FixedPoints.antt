-- Commutative algebras over a field of q elements, and the solutions of z^q = z in them.
-- (Lidl and Niederreiter, Finite Fields, section 4.1.)
use Rattle.std.specs.Prelude.{◌≡◌, ℕ, ◌^◌}
use Rattle.theory_rings.specs.Ring.{RingOn, FieldOn}
use Rattle.theory_rings.specs.Prime.{IsPrime}
use Rattle.theory_rings.specs.Power.{power, times}
use Rattle.theory_rings.specs.Enumerated.{Enumerated}
use Rattle.theory_spaces.specs.Module.{AlgebraOn, module_of}
use Rattle.theory_spaces.specs.Linear.{IsSubmodule}
use Rattle.theory_spaces.specs.Algebra.{IsNilpotent}

module _ {V : Type 0} (R : RingOn V) where
  abbrev pub IsCommutative : Type 0
  IsCommutative = (x y : V) → R.◌⊗◌ x y ≡ R.◌⊗◌ y x

  -- 0 alone is nilpotent
  abbrev pub IsReduced : Type 0
  IsReduced = (x : V) → IsNilpotent R x → x ≡ R.zero

  -- each element but 0 has an inverse; where the ring is commutative and 1 is not 0 it is a field
  abbrev pub HasInverses : Type 0
  HasInverses = (x : V) → (x ≡ R.zero → ⊥) → (y : V) × (R.◌⊗◌ x y ≡ R.one)

  -- z^q = z
  abbrev pub IsFixed : ℕ → V → Type 0
  IsFixed q z = power R z q ≡ z

module _ {K V : Type 0} {R : RingOn K} (A : AlgebraOn R V) where
  -- z is a multiple of one
  pub record IsScalar (z : V) : Type 0 where
    pub scalar : K
    pub is_multiple : z ≡ A.◌•◌ scalar A.one

  -- a subspace that holds one and is closed under products
  pub record IsSubalgebra (S : V → Type 0) : Type 0 where
    pub subspace : IsSubmodule (module_of A) S
    pub one-in : S A.one
    pub mul-in : (x y : V) → S x → S y → S (A.◌⊗◌ x y)

module _ {K V : Type 0} (F : FieldOn K) (E : Enumerated K) (A : AlgebraOn F.ring V) where
  -- in a commutative algebra over a field of q = p^i elements, p prime and p·1 = 0, the solutions of z^q = z are a
  -- subalgebra
  abbrev pub FixedPointsLaw : Type 0
  FixedPointsLaw = IsCommutative A.ring → (p i : ℕ) → IsPrime p → times F.monoid p F.one ≡ F.zero → E.size ≡ p ^ i
      → IsSubalgebra A (IsFixed A.ring E.size)

  -- a commutative algebra in which 0 alone is nilpotent, and multiples of one alone solve z^q = z, has inverses
  abbrev pub FieldCriterion : Type 0
  FieldCriterion = IsCommutative A.ring → IsReduced A.ring → ((z : V) → IsFixed A.ring E.size z → IsScalar A z)
      → HasInverses A.ring

  -- so where 1 is not 0 it is a field, with the same operations
  abbrev pub ConnectedIsField : Type 0
  ConnectedIsField = IsCommutative A.ring → IsReduced A.ring → ((z : V) → IsFixed A.ring E.size z → IsScalar A z)
      → (A.one ≡ A.zero → ⊥) → (G : FieldOn V) × (G.ring ≡ A.ring)
