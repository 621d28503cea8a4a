-- Associative algebras with a basis: ideals, central simple algebras, traces of linear maps and of elements, nilpotent
-- elements.
use Rattle.std.specs.Prelude.{◌≡◌, ℕ, zero, suc, ◌<◌, ◌⊎◌}
use Rattle.theory_rings.specs.Ring.{RingOn}
use Rattle.theory_rings.specs.Sum.{sum}
use Rattle.theory_rings.specs.Power.{power}
use Rattle.theory_spaces.specs.Module.{ModuleOn, AlgebraOn, module_of}
use Rattle.theory_spaces.specs.Linear.{InSpan, Basis}
use Rattle.theory_spaces.specs.Sets.{Whole, Zero, ring_ops, IsIdeal, SimpleQuotient}
use Rattle.theory_spaces.specs.Orthogonal.{IsNondegenerate}

-- f done n times
abbrev pub iterate : {V : Type 0} → (V → V) → ℕ → V → V
iterate f zero x = x
iterate f (suc n) x = iterate f n (f x)

-- some power of x is 0
pub record IsNilpotent {K : Type 0} (R : RingOn K) (x : K) : Type 0 where
  pub exponent : ℕ
  pub vanishes : power R x exponent ≡ R.zero

-- the trace of a map by a basis: the sum of the diagonal of its matrix
abbrev pub map_trace : {K V : Type 0} {R : RingOn K} (M : ModuleOn R V) (n : ℕ) → Basis M n → (V → V) → K
map_trace {R} M n B f = sum R.monoid n (λ j. B.coord (f (B.vec j)) j)

module _ {K V : Type 0} {R : RingOn K} (A : AlgebraOn R V) where
  -- the span of g 0, .., g (n − 1) is an ideal
  abbrev pub IdealSpan : ℕ → (ℕ → V) → Type 0
  IdealSpan n g = IsIdeal (ring_ops A.ring) Whole (InSpan (module_of A) n g)

  -- each finite span that is an ideal is 0 or everything
  abbrev pub IsSimple : Type 0
  IsSimple = (n : ℕ) (g : ℕ → V) → IdealSpan n g
      → ((i : ℕ) → i < n → g i ≡ A.zero) ⊎ ((x : V) → InSpan (module_of A) n g x)

  -- each element that commutes with all is a multiple of one
  pub record Central : Type 0 where
    pub multiple : (x : V) → ((y : V) → A.◌⊗◌ x y ≡ A.◌⊗◌ y x) → (a : K) × (x ≡ A.◌•◌ a A.one)

  -- as a quotient by 0: it is not 0, and each ideal that a test tells is 0 or everything
  abbrev pub SimpleByTests : Type 0
  SimpleByTests = SimpleQuotient (ring_ops A.ring) Whole (Zero (ring_ops A.ring))

  -- its centre is the multiples of one, and it is simple
  pub record CentralSimple : Type 0 where
    pub central : Central
    pub simple : IsSimple

  -- x is in the corner of the idempotent e: x = ex = xe
  abbrev pub InCorner : V → V → Type 0
  InCorner e x = (A.◌⊗◌ e x ≡ x) × (A.◌⊗◌ x e ≡ x)

  module _ (n : ℕ) (B : Basis (module_of A) n) where
    -- the trace of the multiplication by x from the left
    abbrev pub trace : V → K
    trace x = map_trace (module_of A) n B (λ y. A.◌⊗◌ x y)

    -- the form tr(xy) is nondegenerate
    abbrev pub Nondegenerate : Type 0
    Nondegenerate = IsNondegenerate R.zero (λ x y. trace (A.◌⊗◌ x y)) A.zero
