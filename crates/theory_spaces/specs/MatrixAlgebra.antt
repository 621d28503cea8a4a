-- The n by n matrices as an algebra, and the matrices with one entry 1 and else 0.
use Rattle.std.specs.Prelude.{◌≡◌, ℕ, ◌+◌, ◌*◌, ◌<◌}
use Rattle.theory_rings.specs.Ring.{RingOn}
use Rattle.theory_spaces.specs.Module.{AlgebraOn, module_of}
use Rattle.theory_spaces.specs.Linear.{Basis}
use Rattle.theory_spaces.specs.Matrix.{Matrix, Mat, delta, mat_mul}

-- 1 at the place i, j, and else 0
abbrev pub unit_entries : {K : Type 0} → RingOn K → ℕ → ℕ → Matrix K
unit_entries R i j k l = R.◌⊗◌ (delta R i k) (delta R j l)

module _ {K : Type 0} (R : RingOn K) (n : ℕ) where
  -- the operations are those of matrices
  pub record IsMatrixAlgebra (A : AlgebraOn R (Mat R n)) : Type 0 where
    pub zero-is : (i j : ℕ) → A.zero.0 i j ≡ R.zero
    pub add-is : (x y : Mat R n) (i j : ℕ) → (A.◌⊕◌ x y).0 i j ≡ R.◌⊕◌ (x.0 i j) (y.0 i j)
    pub scale-is : (a : K) (x : Mat R n) (i j : ℕ) → (A.◌•◌ a x).0 i j ≡ R.◌⊗◌ a (x.0 i j)
    pub one-is : (i j : ℕ) → i < n → j < n → A.one.0 i j ≡ delta R i j
    pub mul-is : (x y : Mat R n) (i j : ℕ) → (A.◌⊗◌ x y).0 i j ≡ mat_mul R n x.0 y.0 i j

  -- a basis of the matrices with one entry 1, row by row, with their products
  pub record MatrixUnits (A : AlgebraOn R (Mat R n)) : Type 0 where
    pub unit : ℕ → ℕ → Mat R n
    pub entries : (i j k l : ℕ) → k < n → l < n → (unit i j).0 k l ≡ unit_entries R i j k l
    pub products : (i j k l : ℕ) → j < n → k < n → A.◌⊗◌ (unit i j) (unit k l) ≡ A.◌•◌ (delta R j k) (unit i l)
    pub basis : Basis (module_of A) (n * n)
    pub basis-vec : (i j : ℕ) → i < n → j < n → basis.vec (i * n + j) ≡ unit i j
