-- When a lattice is its own dual, by its Gram matrix, and the part of a lattice in a corner.
use Rattle.std.specs.Prelude.{◌≡◌, ℕ, ◌<◌}
use Rattle.theory_rings.specs.Ring.{RingOn}
use Rattle.theory_spaces.specs.Module.{ModuleOn, AlgebraOn}
use Rattle.theory_spaces.specs.Matrix.{Matrix, delta, mat_mul}
use Rattle.theory_spaces.specs.Form.{gram}
use Rattle.theory_spaces.specs.Algebra.{IsNilpotent}

-- e·y·e with y in L
abbrev pub CornerPart : {K V : Type 0} {R : RingOn K} → AlgebraOn R V → V → (V → Type 0) → V → Type 0
CornerPart A e L x = (y : _) × L y × (x ≡ A.◌⊗◌ (A.◌⊗◌ e y) e)

-- the first n rows and columns are in P
abbrev pub EntriesIn : {K : Type 0} → (K → Type 0) → ℕ → (ℕ → ℕ → K) → Type 0
EntriesIn P n G = (i j : ℕ) → i < n → j < n → P (G i j)

-- N is an inverse of the Gram matrix of v 0, .., v (n − 1)
abbrev pub InvertsGram : {K V : Type 0} {R : RingOn K} (M : ModuleOn R V) (form : V → V → K) (n : ℕ) → (ℕ → V)
    → Matrix K → Type 0
InvertsGram {R} M form n v N = (i j : ℕ) → i < n → j < n → mat_mul R n (gram M form v) N i j ≡ delta R i j

-- a Gram matrix with an inverse, both with entries in P
pub record UnimodularGram {K V : Type 0} {R : RingOn K} (M : ModuleOn R V) (form : V → V → K) (P : K → Type 0) (n : ℕ)
    (v : ℕ → V) : Type 0 where
  pub inverse : Matrix K
  pub inverts : InvertsGram M form n v inverse
  pub gram-in : EntriesIn P n (gram M form v)
  pub inverse-in : EntriesIn P n inverse

-- tr is linear, the same for both orders of a product, and 0 at nilpotent elements
pub record IsTraceMap {K V : Type 0} {R : RingOn K} (A : AlgebraOn R V) (tr : V → K) : Type 0 where
  pub tr-add : (x y : V) → tr (A.◌⊕◌ x y) ≡ R.◌⊕◌ (tr x) (tr y)
  pub tr-scale : (c : K) (x : V) → tr (A.◌•◌ c x) ≡ R.◌⊗◌ c (tr x)
  pub tr_comm : (x y : V) → tr (A.◌⊗◌ x y) ≡ tr (A.◌⊗◌ y x)
  pub tr_nilpotent : (x : V) → IsNilpotent A.ring x → tr x ≡ R.zero
