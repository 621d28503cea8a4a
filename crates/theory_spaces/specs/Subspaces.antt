-- Kernel, image, sum and meet of subspaces with their dimensions.
use Rattle.std.specs.Prelude.{◌≡◌, ℕ, ◌+◌, ◌<◌}
use Rattle.theory_rings.specs.Ring.{RingOn}
use Rattle.theory_spaces.specs.Module.{ModuleOn}
use Rattle.theory_spaces.specs.Linear.{Basis, BasisOf}
use Rattle.theory_spaces.specs.Quotient.{SubmoduleOn, quotient_module}
pub use Rattle.theory_spaces.specs.Sets.{Whole}

module _ {K V W : Type 0} {R : RingOn K} (M : ModuleOn R V) (N : ModuleOn R W) (f : V → W) (S : V → Type 0) where
  -- the vectors of S that f sends to 0
  abbrev pub Kernel : V → Type 0
  Kernel x = S x × (f x ≡ N.zero)

  -- what f makes of the vectors of S
  abbrev pub Image : W → Type 0
  Image y = (x : V) × S x × (f x ≡ y)

  -- the dimensions of the kernel and the image of f on S sum to n, and a basis of the kernel begins one of S
  pub record RankNullity (n : ℕ) : Type 0 where
    pub nullity : ℕ
    pub rank : ℕ
    pub total : nullity + rank ≡ n
    pub kernel : BasisOf M nullity Kernel
    pub image : BasisOf N rank Image
    pub basis : BasisOf M (nullity + rank) S
    pub starts : (i : ℕ) → i < nullity → basis.vec i ≡ kernel.vec i

module _ {K V : Type 0} {R : RingOn K} (M : ModuleOn R V) (U W : V → Type 0) where
  -- the sums of a vector of U and one of W
  abbrev pub Sum : V → Type 0
  Sum x = (a : V) × (b : V) × U a × W b × (x ≡ M.◌⊕◌ a b)

  -- the vectors of both
  abbrev pub Meet : V → Type 0
  Meet x = U x × W x

  -- the dimensions of the sum and of the meet sum to n
  pub record SumAndMeet (n : ℕ) : Type 0 where
    pub sum_size : ℕ
    pub meet_size : ℕ
    pub total : sum_size + meet_size ≡ n
    pub sum : BasisOf M sum_size Sum
    pub meet : BasisOf M meet_size Meet

-- a quotient has the dimension that is left
pub record QuotientBasis {K V : Type 0} {R : RingOn K} (M : ModuleOn R V) (S : SubmoduleOn M) (k n : ℕ) : Type 0 where
  pub size : ℕ
  pub total : k + size ≡ n
  pub basis : Basis (quotient_module M S) size

-- pairs, added and scaled part by part
abbrev pub pairs : {K V W : Type 0} {R : RingOn K} → ModuleOn R V → ModuleOn R W → ModuleOn R (V × W)
pairs M N = record {
  additive = record {
    monoid = record {
      zero = (M.zero, N.zero);
      ◌⊕◌ = λ p q. (M.◌⊕◌ p.0 q.0, N.◌⊕◌ p.1 q.1);
      add_assoc = λ p q r. λ i. (M.add_assoc p.0 q.0 r.0 i, N.add_assoc p.1 q.1 r.1 i);
      add_comm = λ p q. λ i. (M.add_comm p.0 q.0 i, N.add_comm p.1 q.1 i);
      zero-add = λ p. λ i. (M.zero-add p.0 i, N.zero-add p.1 i);
    };
    neg = λ p. (M.neg p.0, N.neg p.1);
    neg-add = λ p. λ i. (M.neg-add p.0 i, N.neg-add p.1 i);
  };
  scalars = record {
    ◌•◌ = λ a p. (M.◌•◌ a p.0, N.◌•◌ a p.1);
    scale-add = λ a p q. λ i. (M.scale-add a p.0 q.0 i, N.scale-add a p.1 q.1 i);
    add-scale = λ a b p. λ i. (M.add-scale a b p.0 i, N.add-scale a b p.1 i);
    mul-scale = λ a b p. λ i. (M.mul-scale a b p.0 i, N.mul-scale a b p.1 i);
    one-scale = λ p. λ i. (M.one-scale p.0 i, N.one-scale p.1 i);
  };
}
