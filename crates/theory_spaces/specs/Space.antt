-- Spaces whose vectors are their n coordinates, and products on them by structure constants.
use Rattle.std.specs.Prelude.{◌≡◌, ℕ, ◌<◌}
use Rattle.theory_rings.specs.Ring.{RingOn}
use Rattle.theory_rings.specs.Sum.{sum}
use Rattle.theory_spaces.specs.Module.{ModuleOn, AlgebraOn, module_of}

-- vectors are what their n coordinates are, which can be chosen and depend on the vector linearly
pub record SpaceOn {K V : Type 0} {R : RingOn K} (M : ModuleOn R V) (n : ℕ) : Type 0 where
  pub coord : V → ℕ → K
  pub make : (ℕ → K) → V
  pub coord-make : (f : ℕ → K) (i : ℕ) → i < n → coord (make f) i ≡ f i
  pub ext : (x y : V) → ((i : ℕ) → i < n → coord x i ≡ coord y i) → x ≡ y
  pub coord-zero : (i : ℕ) → i < n → coord M.zero i ≡ R.zero
  pub coord-add : (x y : V) (i : ℕ) → i < n → coord (M.◌⊕◌ x y) i ≡ R.◌⊕◌ (coord x i) (coord y i)
  pub coord-scale : (a : K) (x : V) (i : ℕ) → i < n → coord (M.◌•◌ a x) i ≡ R.◌⊗◌ a (coord x i)

-- a product of two vectors that is linear in each, with no further law
pub record ProductOn {K V : Type 0} {R : RingOn K} (M : ModuleOn R V) : Type 0 where
  infixl 70 ◌⊗◌
  pub ◌⊗◌ : V → V → V
  pub mul-add : (x y z : V) → x ⊗ M.◌⊕◌ y z ≡ M.◌⊕◌ (x ⊗ y) (x ⊗ z)
  pub add-mul : (x y z : V) → M.◌⊕◌ x y ⊗ z ≡ M.◌⊕◌ (x ⊗ z) (y ⊗ z)
  pub scale-left : (a : K) (x y : V) → M.◌•◌ a x ⊗ y ≡ M.◌•◌ a (x ⊗ y)
  pub scale-right : (a : K) (x y : V) → x ⊗ M.◌•◌ a y ≡ M.◌•◌ a (x ⊗ y)

-- the product of an algebra
abbrev pub product_on : {K V : Type 0} {R : RingOn K} (A : AlgebraOn R V) → ProductOn (module_of A)
product_on A = record {
  ◌⊗◌ = A.◌⊗◌;
  mul-add = A.mul-add;
  add-mul = A.add-mul;
  scale-left = A.scale-left;
  scale-right = A.scale-right;
}

-- the sum of f i j over i and j below n
abbrev pub sum2 : {K : Type 0} (R : RingOn K) → ℕ → (ℕ → ℕ → K) → K
sum2 R n f = sum R.monoid n (λ i. sum R.monoid n (λ j. f i j))

-- the product whose coordinate k is the sum of x i · y j · g i j k
abbrev pub table_product : {K V : Type 0} {R : RingOn K} (M : ModuleOn R V) (n : ℕ) → SpaceOn M n → (ℕ → ℕ → ℕ → K)
    → V → V → V
table_product {R} M n S g x y = S.make (λ k. sum2 R n (λ i j. R.◌⊗◌ (R.◌⊗◌ (S.coord x i) (S.coord y j)) (g i j k)))
