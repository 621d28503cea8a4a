-- Discrete valuation rings: a generator of what is not a unit of a valuation ring, by whose powers each element of the
-- field becomes integral. (Reiner, Maximal Orders, section 5.)
use Rattle.std.specs.Prelude.{◌≡◌, ℕ, ◌⊎◌}
use Rattle.theory_rings.specs.Ring.{FieldOn}
use Rattle.theory_rings.specs.Power.{power}
use Rattle.theory_spaces.specs.Valuation.{ValuationOn}
pub use Rattle.theory_spaces.specs.Valuation.{IsIntegral}

module _ {K : Type 0} (F : FieldOn K) (Z : ValuationOn F) where
  -- a is not 0 and its inverse is integral; such an integral element is a unit
  abbrev pub IsUnit : K → Type 0
  IsUnit a = (a ≡ F.zero → ⊥) × IsIntegral F Z (F.inv a)

  -- p is integral with the inverse q; an integral element is a multiple of p or a unit; a power of p makes each element
  -- integral
  pub record UniformizerOn (p q : K) : Type 0 where
    pub p_in : IsIntegral F Z p
    pub pq : F.◌⊗◌ p q ≡ F.one
    pub multiple_or_unit : (c : K) → IsIntegral F Z c → IsIntegral F Z (F.◌⊗◌ q c) ⊎ IsUnit c
    pub reach : (c : K) → (s : ℕ) × IsIntegral F Z (F.◌⊗◌ (power F.ring p s) c)
