-- Idempotents e with eAe = Ke, their left ideals Ae, and the linear maps of these.
use Rattle.std.specs.Prelude.{◌≡◌, ℕ, ◌<◌}
use Rattle.theory_rings.specs.Ring.{RingOn}
use Rattle.theory_rings.specs.Sum.{sum}
use Rattle.theory_spaces.specs.Module.{AlgebraOn, module_of}
use Rattle.theory_spaces.specs.Linear.{comb, BasisOf}
use Rattle.theory_spaces.specs.Matrix.{Mat}
use Rattle.theory_spaces.specs.AlgebraMap.{IsAlgebraIso}

module _ {K V : Type 0} {R : RingOn K} (A : AlgebraOn R V) (e : V) where
  -- e is an idempotent other than 0, and each e·x·e is a multiple of e
  pub record IsMinimalIdempotent : Type 0 where
    pub idempotent : A.◌⊗◌ e e ≡ e
    pub nonzero : e ≡ A.zero → ⊥
    pub corner : (x : V) → (a : K) × (A.◌⊗◌ (A.◌⊗◌ e x) e ≡ A.◌•◌ a e)

  -- x lies in Ae: x = xe
  abbrev pub InLeftIdeal : V → Type 0
  InLeftIdeal x = A.◌⊗◌ x e ≡ x

  -- one is a sum of products x i·e·y i
  pub record OneThrough : Type 0 where
    pub size : ℕ
    pub left : ℕ → V
    pub right : ℕ → V
    pub sums : A.one ≡ sum A.monoid size (λ i. A.◌⊗◌ (A.◌⊗◌ (left i) e) (right i))

  -- a linear map of Ae to itself
  pub record IsEndomorphism (s : V → V) : Type 0 where
    pub inside : (x : V) → InLeftIdeal x → InLeftIdeal (s x)
    pub map-add : (x y : V) → InLeftIdeal x → InLeftIdeal y → s (A.◌⊕◌ x y) ≡ A.◌⊕◌ (s x) (s y)
    pub map-scale : (a : K) (x : V) → InLeftIdeal x → s (A.◌•◌ a x) ≡ A.◌•◌ a (s x)

  -- the sum of the s (x i·e)·y i
  abbrev pub multiplier : OneThrough → (V → V) → V
  multiplier o s = sum A.monoid o.size (λ i. A.◌⊗◌ (s (A.◌⊗◌ (o.left i) e)) (o.right i))

  -- the matrices by which the elements multiply a basis of Ae from the left are all matrices, each of one element
  pub record LeftMatrices (k : ℕ) (W : BasisOf (module_of A) k InLeftIdeal) (B : AlgebraOn R (Mat R k)) : Type 0 where
    pub matrix : V → Mat R k
    pub acts : (x : V) (j : ℕ) → j < k → A.◌⊗◌ x (W.vec j) ≡ comb (module_of A) k (λ i. (matrix x).0 i j) W.vec
    pub isomorphism : IsAlgebraIso A B matrix
