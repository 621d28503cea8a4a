-- Bilinear forms on a module: symmetric and nondegenerate forms, the Gram matrix, dual bases, orthogonal sets, and the
-- trace form of an algebra. (Jacobson, Basic Algebra I, chapter 6.)
use Rattle.std.specs.Prelude.{◌≡◌, ℕ, ◌+◌, ◌⊎◌}
use Rattle.theory_rings.specs.Ring.{RingOn}
use Rattle.theory_spaces.specs.Module.{ModuleOn, AlgebraOn, module_of}
use Rattle.theory_spaces.specs.Linear.{Basis, BasisOf}
use Rattle.theory_spaces.specs.Matrix.{Matrix}
use Rattle.theory_spaces.specs.Algebra.{trace}
use Rattle.theory_spaces.specs.Orthogonal as orthogonal
use Rattle.theory_spaces.specs.Orthogonal.{AreDual}

module _ {K V : Type 0} {R : RingOn K} (M : ModuleOn R V) (f : V → V → K) where
  -- f keeps sums and multiples in each argument
  pub record IsBilinear : Type 0 where
    pub add-left : (x y z : V) → f (M.◌⊕◌ x y) z ≡ R.◌⊕◌ (f x z) (f y z)
    pub add-right : (x y z : V) → f x (M.◌⊕◌ y z) ≡ R.◌⊕◌ (f x y) (f x z)
    pub scale-left : (a : K) (x y : V) → f (M.◌•◌ a x) y ≡ R.◌⊗◌ a (f x y)
    pub scale-right : (a : K) (x y : V) → f x (M.◌•◌ a y) ≡ R.◌⊗◌ a (f x y)

  -- 0 alone is orthogonal to everything
  abbrev pub IsNondegenerate : Type 0
  IsNondegenerate = orthogonal.IsNondegenerate R.zero f M.zero

  -- x is orthogonal to everything
  abbrev pub InRadical : V → Type 0
  InRadical = orthogonal.InRadical R.zero f

  -- x is orthogonal to all of S
  abbrev pub Orthogonal : (V → Type 0) → V → Type 0
  Orthogonal = orthogonal.Orthogonal R.zero f

  -- the values of the form at pairs of the vectors v
  abbrev pub gram : (ℕ → V) → Matrix K
  gram v i j = f (v i) (v j)

  -- a basis d with f (b i) (d i) = 1, and f (b i) (d j) = 0 for j other than i
  pub record DualBasis (n : ℕ) (B : Basis M n) : Type 0 where
    pub basis : Basis M n
    pub dual : AreDual R.zero f R.one n B.vec basis.vec
    pub open dual use {pairing}

  -- what is orthogonal to S has the dimension that is left of n by k
  pub record OrthogonalBasis (S : V → Type 0) (k n : ℕ) : Type 0 where
    pub size : ℕ
    pub total : k + size ≡ n
    pub basis : BasisOf M size (Orthogonal S)

  -- f is nondegenerate, or some vector other than 0 is orthogonal to everything
  abbrev pub NondegenerateOrNot : Type 0
  NondegenerateOrNot = IsNondegenerate ⊎ ((x : V) × (x ≡ M.zero → ⊥) × InRadical x)

-- rows and columns exchanged
abbrev pub transpose : {K : Type 0} → Matrix K → Matrix K
transpose A i j = A j i

-- the arguments in the other order
abbrev pub flip : {K V : Type 0} → (V → V → K) → V → V → K
flip f x y = f y x

-- both orders of the arguments give one value
pub record IsSymmetric {K V : Type 0} (f : V → V → K) : Type 0 where
  pub symmetric : (x y : V) → f x y ≡ f y x

-- a middle factor can go to either argument
pub record IsInvariant {K V : Type 0} {R : RingOn K} (A : AlgebraOn R V) (f : V → V → K) : Type 0 where
  pub associative : (x y z : V) → f (A.◌⊗◌ x y) z ≡ f x (A.◌⊗◌ y z)

-- the trace of the product
abbrev pub trace_form : {K V : Type 0} {R : RingOn K} (A : AlgebraOn R V) (n : ℕ) → Basis (module_of A) n → V → V → K
trace_form A n B x y = trace A n B (A.◌⊗◌ x y)
