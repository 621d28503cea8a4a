-- Monoids, groups, rings and fields on a type: the operations with their laws, which hold of every value.
-- (Jacobson, Basic Algebra I, chapters 1 and 2.)
use Rattle.std.specs.Prelude.{◌≡◌, Bool, true}

-- a commutative monoid, written with a sum
pub record AddCommMonoidOn (V : Type 0) : Type 0 where
  infixl 65 ◌⊕◌
  pub zero : V
  pub ◌⊕◌ : V → V → V
  pub add_assoc : (a b c : V) → (a ⊕ b) ⊕ c ≡ a ⊕ (b ⊕ c)
  pub add_comm : (a b : V) → a ⊕ b ≡ b ⊕ a
  pub zero-add : (a : V) → zero ⊕ a ≡ a

-- an abelian group
pub record AddCommGroupOn (V : Type 0) : Type 0 where
  infixl 65 ◌⊕◌
  pub monoid : AddCommMonoidOn V
  pub open monoid use {zero, ◌⊕◌, add_assoc, add_comm, zero-add}
  pub neg : V → V
  pub neg-add : (a : V) → neg a ⊕ a ≡ zero

-- a ring with one, not necessarily commutative
pub record RingOn (K : Type 0) : Type 0 where
  infixl 65 ◌⊕◌
  infixl 70 ◌⊗◌
  pub additive : AddCommGroupOn K
  pub open additive use {monoid, zero, ◌⊕◌, neg, add_assoc, add_comm, zero-add, neg-add}
  pub one : K
  pub ◌⊗◌ : K → K → K
  pub mul_assoc : (a b c : K) → (a ⊗ b) ⊗ c ≡ a ⊗ (b ⊗ c)
  pub one-mul : (a : K) → one ⊗ a ≡ a
  pub mul-one : (a : K) → a ⊗ one ≡ a
  pub mul-add : (a b c : K) → a ⊗ (b ⊕ c) ≡ (a ⊗ b) ⊕ (a ⊗ c)
  pub add-mul : (a b c : K) → (a ⊕ b) ⊗ c ≡ (a ⊗ c) ⊕ (b ⊗ c)

-- a commutative ring with one
pub record CommRingOn (K : Type 0) : Type 0 where
  infixl 70 ◌⊗◌
  pub ring : RingOn K
  pub open ring use {
    additive,
    monoid,
    zero,
    ◌⊕◌,
    neg,
    add_assoc,
    add_comm,
    zero-add,
    neg-add,
    one,
    ◌⊗◌,
    mul_assoc,
    one-mul,
    mul-one,
    mul-add,
    add-mul,
  }
  pub mul_comm : (a b : K) → a ⊗ b ≡ b ⊗ a

-- a test that is true at 0 and at no other value
pub record ZeroTest {K : Type 0} (zero : K) (is_zero : K → Bool) : Type 0 where
  pub is_zero-sound : (a : K) → is_zero a ≡ true → a ≡ zero
  pub is_zero-zero : is_zero zero ≡ true

-- a field whose elements can be told apart from 0
pub record FieldOn (K : Type 0) : Type 0 where
  infixl 70 ◌⊗◌
  pub cring : CommRingOn K
  pub open cring use {
    ring,
    additive,
    monoid,
    zero,
    ◌⊕◌,
    neg,
    add_assoc,
    add_comm,
    zero-add,
    neg-add,
    one,
    ◌⊗◌,
    mul_assoc,
    one-mul,
    mul-one,
    mul-add,
    add-mul,
    mul_comm,
  }
  pub inv : K → K
  pub is_zero : K → Bool
  pub zero_test : ZeroTest zero is_zero
  pub open zero_test use {is_zero-sound, is_zero-zero}
  pub one-nonzero : (one ≡ zero) → ⊥
  pub inv-mul : (a : K) → (a ≡ zero → ⊥) → inv a ⊗ a ≡ one
