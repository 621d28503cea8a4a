-- Left modules and associative algebras over a ring, which need not be commutative: the operations with their laws.
-- (Jacobson, Basic Algebra I, chapters 3 and 7.)
use Rattle.std.specs.Prelude.{◌≡◌}
use Rattle.theory_rings.specs.Ring.{AddCommGroupOn, RingOn}

module _ {K V : Type 0} (R : RingOn K) (G : AddCommGroupOn V) where
  infixl 65 ◌⊕◌
  open G use {◌⊕◌}

  -- multiples of the elements of an abelian group by those of a ring
  pub record ScalarsOn : Type 0 where
    infixl 70 ◌•◌
    pub ◌•◌ : K → V → V
    pub scale-add : (a : K) (x y : V) → a • (x ⊕ y) ≡ (a • x) ⊕ (a • y)
    pub add-scale : (a b : K) (x : V) → (R.◌⊕◌ a b) • x ≡ (a • x) ⊕ (b • x)
    pub mul-scale : (a b : K) (x : V) → (R.◌⊗◌ a b) • x ≡ a • (b • x)
    pub one-scale : (x : V) → R.one • x ≡ x

-- a left module over a ring
pub record ModuleOn {K : Type 0} (R : RingOn K) (V : Type 0) : Type 0 where
  pub additive : AddCommGroupOn V
  pub open additive use {monoid, zero, ◌⊕◌, neg, add_assoc, add_comm, zero-add, neg-add}
  pub scalars : ScalarsOn R additive
  pub open scalars use {◌•◌, scale-add, add-scale, mul-scale, one-scale}

-- an associative algebra with one
pub record AlgebraOn {K : Type 0} (R : RingOn K) (V : Type 0) : Type 0 where
  infixl 70 ◌⊗◌
  infixl 70 ◌•◌
  pub ring : RingOn V
  pub open ring use {
    additive,
    monoid,
    zero,
    ◌⊕◌,
    neg,
    add_assoc,
    add_comm,
    zero-add,
    neg-add,
    one,
    ◌⊗◌,
    mul_assoc,
    one-mul,
    mul-one,
    mul-add,
    add-mul,
  }
  pub scalars : ScalarsOn R additive
  pub open scalars use {◌•◌, scale-add, add-scale, mul-scale, one-scale}
  pub scale-left : (a : K) (x y : V) → (a • x) ⊗ y ≡ a • (x ⊗ y)
  pub scale-right : (a : K) (x y : V) → x ⊗ (a • y) ≡ a • (x ⊗ y)

-- an algebra without its product
abbrev pub module_of : {K V : Type 0} {R : RingOn K} → AlgebraOn R V → ModuleOn R V
module_of A = record { additive = A.additive; scalars = A.scalars }
