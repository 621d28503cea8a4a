-- Degrees on a ring without divisors of 0, as that of polynomials and, for fractions, minus the valuation at infinity.
use Rattle.std.specs.Prelude.{◌≡◌, ℤ, pos, ◌+ℤ◌, ◌-ℤ◌, ◌≤ℤ◌, ◌<ℤ◌, ◌⊎◌}
use Rattle.theory_rings.specs.Ring.{RingOn}

-- a is the 0, or what stands for its degree is below n
abbrev pub BelowBy : {K : Type 0} → K → (K → ℤ) → ℤ → K → Type 0
BelowBy nought deg n a = (a ≡ nought) ⊎ (deg a <ℤ n)

-- a degree; what it is at 0 does not matter
pub record DegreeOn {K : Type 0} (R : RingOn K) : Type 0 where
  pub deg : K → ℤ
  pub eq_zero_or : (a : K) → (a ≡ R.zero) ⊎ (a ≡ R.zero → ⊥)
  pub one-ne-zero : R.one ≡ R.zero → ⊥
  pub mul-ne-zero : (a b : K) → (a ≡ R.zero → ⊥) → (b ≡ R.zero → ⊥) → R.◌⊗◌ a b ≡ R.zero → ⊥
  pub deg-mul : (a b : K) → (a ≡ R.zero → ⊥) → (b ≡ R.zero → ⊥) → deg (R.◌⊗◌ a b) ≡ deg a +ℤ deg b
  pub deg-neg : (a : K) → deg (R.neg a) ≡ deg a
  pub add-below : (n : ℤ) (a b : K) → BelowBy R.zero deg n a → BelowBy R.zero deg n b → BelowBy R.zero deg n (R.◌⊕◌ a b)

module _ {K : Type 0} {R : RingOn K} (W : DegreeOn R) where
  -- a is 0, or its degree is below n
  abbrev pub DegreeBelow : ℤ → K → Type 0
  DegreeBelow n a = BelowBy R.zero W.deg n a

  -- a is not 0, and has degree n
  pub record HasDegree (n : ℤ) (a : K) : Type 0 where
    pub nonzero : a ≡ R.zero → ⊥
    pub degree : W.deg a ≡ n

  -- no degree is negative, and division with remainder by what is not of greater degree takes off the leading term
  pub record IsEuclidean : Type 0 where
    pub natural : (a : K) → (a ≡ R.zero → ⊥) → pos 0 ≤ℤ W.deg a
    pub cancel : (a b : K) → (a ≡ R.zero → ⊥) → (b ≡ R.zero → ⊥) → W.deg b ≤ℤ W.deg a
        → (m : K) × HasDegree (W.deg a -ℤ W.deg b) m × DegreeBelow (W.deg a) (R.◌⊕◌ a (R.neg (R.◌⊗◌ m b)))
