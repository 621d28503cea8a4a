-- Combinations of finitely many vectors, spans, independence, bases and linear maps. A family of vectors is a function
-- from the numbers, of which the first n count.
use Rattle.std.specs.Prelude.{◌≡◌, ℕ, ◌<◌, ◌≤◌}
use Rattle.theory_rings.specs.Ring.{RingOn, FieldOn}
use Rattle.theory_rings.specs.Sum.{sum}
use Rattle.theory_spaces.specs.Module.{ModuleOn}

module _ {K V : Type 0} {R : RingOn K} (M : ModuleOn R V) where
  -- c 0 • v 0 + .. + c (n − 1) • v (n − 1)
  abbrev pub comb : ℕ → (ℕ → K) → (ℕ → V) → V
  comb n c v = sum M.monoid n (λ i. M.◌•◌ (c i) (v i))

  -- x is a combination of w 0, .., w (n − 1)
  pub record InSpan (n : ℕ) (w : ℕ → V) (x : V) : Type 0 where
    pub weights : ℕ → K
    pub combines : x ≡ comb n weights w

  -- 0 is a combination of v 0, .., v (n − 1) in one way only
  pub record Independent (n : ℕ) (v : ℕ → V) : Type 0 where
    pub only_zero : (c : ℕ → K) → comb n c v ≡ M.zero → (i : ℕ) → i < n → c i ≡ R.zero

  -- n coordinates that depend on a vector linearly and are all 0 at 0 alone
  pub record Coords (n : ℕ) : Type 0 where
    pub coord : V → ℕ → K
    pub coord-zero : (j : ℕ) → coord M.zero j ≡ R.zero
    pub coord-add : (x y : V) (j : ℕ) → coord (M.◌⊕◌ x y) j ≡ R.◌⊕◌ (coord x j) (coord y j)
    pub coord-scale : (a : K) (x : V) (j : ℕ) → coord (M.◌•◌ a x) j ≡ R.◌⊗◌ a (coord x j)
    pub faithful : (x : V) → ((j : ℕ) → j < n → coord x j ≡ R.zero) → x ≡ M.zero

  -- independent vectors of which each vector is a combination, with its coordinates as weights
  pub record Basis (n : ℕ) : Type 0 where
    pub vec : ℕ → V
    pub independent : Independent n vec
    pub coord : V → ℕ → K
    pub coord-zero : (j : ℕ) → coord M.zero j ≡ R.zero
    pub coord-add : (x y : V) (j : ℕ) → coord (M.◌⊕◌ x y) j ≡ R.◌⊕◌ (coord x j) (coord y j)
    pub coord-scale : (a : K) (x : V) (j : ℕ) → coord (M.◌•◌ a x) j ≡ R.◌⊗◌ a (coord x j)
    pub expand : (x : V) → x ≡ comb n (coord x) vec

  -- a basis that begins with the k vectors u
  pub record Extension (k : ℕ) (u : ℕ → V) (n : ℕ) : Type 0 where
    pub basis : Basis n
    pub starts : (i : ℕ) → i < k → basis.vec i ≡ u i

  -- a set of vectors that is closed under sums and multiples
  pub record IsSubmodule (S : V → Type 0) : Type 0 where
    pub zero-in : S M.zero
    pub add-in : (x y : V) → S x → S y → S (M.◌⊕◌ x y)
    pub scale-in : (a : K) (x : V) → S x → S (M.◌•◌ a x)

  -- independent vectors of S of which each vector of S is a combination; over a field, S has dimension n
  pub record BasisOf (n : ℕ) (S : V → Type 0) : Type 0 where
    pub vec : ℕ → V
    pub independent : Independent n vec
    pub inside : (j : ℕ) → j < n → S (vec j)
    pub spans : (x : V) → S x → InSpan n vec x

-- a map that keeps sums and multiples
pub record IsLinear {K V W : Type 0} {R : RingOn K} (M : ModuleOn R V) (N : ModuleOn R W) (f : V → W) : Type 0 where
  pub map-add : (x y : V) → f (M.◌⊕◌ x y) ≡ N.◌⊕◌ (f x) (f y)
  pub map-scale : (a : K) (x : V) → f (M.◌•◌ a x) ≡ N.◌•◌ a (f x)

-- n independent vectors in the span of m vectors are no more than these
abbrev pub Exchange : {K V : Type 0} (F : FieldOn K) → ModuleOn F.ring V → Type 0
Exchange F M = (n m : ℕ) (v w : ℕ → _) → Independent M n v → ((i : ℕ) → i < n → InSpan M m w (v i)) → n ≤ m
