-- Pairs of a finite and an infinite order that are their own duals for a trace, and elements of both that are neither
-- nilpotent nor units.
use Rattle.std.specs.Prelude.{◌≡◌, ℕ, ℤ, pos, ◌+ℤ◌}
use Rattle.theory_rings.specs.Ring.{FieldOn}
use Rattle.theory_spaces.specs.Module.{AlgebraOn}
use Rattle.theory_spaces.specs.Orthogonal.{AreDual}
use Rattle.theory_spaces.specs.Algebra.{IsNilpotent}
use Rattle.theory_spaces.specs.Sets.{Within}
use Rattle.theory_spaces.specs.Lattice.{DualOf}
use Rattle.theory_lattices.specs.Degree.{DegreeOn, DegreeBelow, HasDegree}

-- powers of every degree of an element of degree 1
pub record PowersOf {K : Type 0} (F : FieldOn K) (W : DegreeOn F.ring) (T : ℤ → K) : Type 0 where
  pub degree : (m : ℤ) → HasDegree W m (T m)
  pub joined : (m k : ℤ) → F.◌⊗◌ (T m) (T k) ≡ T (m +ℤ k)
  pub none : T (pos 0) ≡ F.one

-- P holds of 0, of sums and of products
pub record ClosedWeights {K : Type 0} (F : FieldOn K) (P : K → Type 0) : Type 0 where
  pub zero_in : P F.zero
  pub add_in : (a b : K) → P a → P b → P (F.◌⊕◌ a b)
  pub mul_in : (a b : K) → P a → P b → P (F.◌⊗◌ a b)

module _ {K V : Type 0} (F : FieldOn K) (W : DegreeOn F.ring) (A : AlgebraOn F.ring V) (P : K → Type 0) where
  -- two sets that are closed under products; the finite one holds all that pairs with it into P, the infinite one all
  -- that pairs with it into the elements of degree at most 0; the trace is linear, the same for both orders of a
  -- product, and 0 at nilpotent elements
  pub record SelfDualPair (finite infinite : V → Type 0) (tr : V → K) : Type 0 where
    pub finite-mul : (x y : V) → finite x → finite y → finite (A.◌⊗◌ x y)
    pub infinite-mul : (x y : V) → infinite x → infinite y → infinite (A.◌⊗◌ x y)
    pub finite_dual : Within (DualOf (λ x y. tr (A.◌⊗◌ x y)) P finite) finite
    pub infinite_dual : Within (DualOf (λ x y. tr (A.◌⊗◌ x y)) (DegreeBelow W (pos 1)) infinite) infinite
    pub tr-add : (x y : V) → tr (A.◌⊕◌ x y) ≡ F.◌⊕◌ (tr x) (tr y)
    pub tr-scale : (c : K) (x : V) → tr (A.◌•◌ c x) ≡ F.◌⊗◌ c (tr x)
    pub tr_comm : (x y : V) → tr (A.◌⊗◌ x y) ≡ tr (A.◌⊗◌ y x)
    pub tr_nilpotent : (x : V) → IsNilpotent A.ring x → tr x ≡ F.zero

  -- the trace takes the one order into P, and the other into the elements of degree at most 0
  pub record IntegralTrace (finite infinite : V → Type 0) (tr : V → K) : Type 0 where
    pub finite_trace : (x : V) → finite x → P (tr x)
    pub infinite_trace : (x : V) → infinite x → DegreeBelow W (pos 1) (tr x)

  -- an element of both that is neither nilpotent nor a unit of both
  pub record Middle (finite infinite : V → Type 0) (w : V) : Type 0 where
    pub in_finite : finite w
    pub in_infinite : infinite w
    pub not_nilpotent : IsNilpotent A.ring w → ⊥
    pub not_unit : (y : V) → finite y → infinite y → A.◌⊗◌ w y ≡ A.one → A.◌⊗◌ y w ≡ A.one → ⊥

-- the trace is 1 at b i · d i, and 0 at b i · d j for j other than i
abbrev pub DualVectors : {K V : Type 0} (F : FieldOn K) → AlgebraOn F.ring V → (V → K) → ℕ → (ℕ → V) → (ℕ → V) → Type 0
DualVectors F A tr n b d = AreDual F.zero (λ x y. tr (A.◌⊗◌ x y)) F.one n b d
