-- The corner eAe of an algebra at an idempotent e as an algebra of its own, also by constants, and the ideals of A that
-- sets of it generate. (Pierce, Associative Algebras, chapter 6; Lam, A First Course in Noncommutative Rings, section
-- 21.)
use Rattle.std.specs.Prelude.{◌≡◌, ℕ, ◌<◌}
use Rattle.theory_rings.specs.Ring.{RingOn, FieldOn}
use Rattle.theory_spaces.specs.Module.{ModuleOn, AlgebraOn, module_of}
use Rattle.theory_spaces.specs.Linear.{comb}
use Rattle.theory_spaces.specs.Space.{SpaceOn, sum2}
use Rattle.theory_spaces.specs.Algebra.{InCorner}
use Rattle.theory_orders.specs.Orders.{SumOf}

-- the elements of the corner as a type
abbrev pub Corner : {K V : Type 0} {R : RingOn K} → AlgebraOn R V → V → Type 0
Corner A e = (x : _) × InCorner A e x

module _ {K V W : Type 0} {R : RingOn K} (A : AlgebraOn R V) (e : V) (C : AlgebraOn R W) (ι : W → V) where
  -- C is the corner of e: ι is one to one onto it, keeps sums, products and multiples, and takes one to e
  pub record IsCorner : Type 0 where
    pub map-one : ι C.one ≡ e
    pub map-add : (x y : W) → ι (C.◌⊕◌ x y) ≡ A.◌⊕◌ (ι x) (ι y)
    pub map-mul : (x y : W) → ι (C.◌⊗◌ x y) ≡ A.◌⊗◌ (ι x) (ι y)
    pub map-scale : (a : K) (x : W) → ι (C.◌•◌ a x) ≡ A.◌•◌ a (ι x)
    pub injective : (x y : W) → ι x ≡ ι y → x ≡ y
    pub inside : (x : W) → InCorner A e (ι x)
    pub onto : (y : V) → InCorner A e y → (x : W) × (ι x ≡ y)

  -- a·x·b with x in J
  abbrev pub Between : (W → Type 0) → V → Type 0
  Between J y = (a : V) × (x : W) × (b : V) × J x × (y ≡ A.◌⊗◌ (A.◌⊗◌ a (ι x)) b)

  -- AJA, the sums of such products
  abbrev pub IdealOf : (W → Type 0) → V → Type 0
  IdealOf J = SumOf A (Between J)

-- the constants by which vectors u of the corner multiply, and the coordinates of e
pub record CornerConstants {K V : Type 0} {R : RingOn K} (A : AlgebraOn R V) (e : V) (n : ℕ) (u : ℕ → V) : Type 0 where
  pub constant : ℕ → ℕ → ℕ → K
  pub products : (i j : ℕ) → i < n → j < n → A.◌⊗◌ (u i) (u j) ≡ comb (module_of A) n (constant i j) u
  pub one : ℕ → K
  pub one-is : e ≡ comb (module_of A) n one u

-- the product by these constants on a space of coordinates, with the one of these coordinates, makes an algebra, and it
-- is the corner: coordinates go to the combination of the vectors
pub record CornerTable {K V W : Type 0} (F : FieldOn K) (A : AlgebraOn F.ring V) (e : V) (n : ℕ) (u : ℕ → V)
    (D : CornerConstants A e n u) (N : ModuleOn F.ring W) (S : SpaceOn N n) : Type 0 where
  pub algebra : AlgebraOn F.ring W
  pub module-is : module_of algebra ≡ N
  pub product-is : (x y : W) (k : ℕ) → k < n → S.coord (algebra.◌⊗◌ x y) k
      ≡ sum2 F.ring n (λ i j. F.◌⊗◌ (F.◌⊗◌ (S.coord x i) (S.coord y j)) (D.constant i j k))
  pub one-is : (k : ℕ) → k < n → S.coord algebra.one k ≡ D.one k
  pub corner : IsCorner A e algebra (λ x. comb (module_of A) n (S.coord x) u)
