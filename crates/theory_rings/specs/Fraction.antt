-- Fractions over a commutative ring, each by one pair in lowest terms; fractions of polynomials.
use Rattle.std.specs.Prelude.{◌≡◌}
use Rattle.theory_rings.specs.Ring.{CommRingOn, FieldOn}
use Rattle.theory_rings.specs.Polynomial.{Poly, IsMonic}
use Rattle.theory_rings.specs.Division.{IsCoprime}

-- a / b and u / v are the same fraction
abbrev pub SameFraction : {D : Type 0} → CommRingOn D → D → D → D → D → Type 0
SameFraction C a b u v = C.◌⊗◌ a v ≡ C.◌⊗◌ u b

-- the pairs of numerator and denominator in lowest terms
abbrev pub Fraction : {D : Type 0} → (D → D → Type 0) → Type 0
Fraction {D} Lowest = (w : D × D) × Lowest w.0 w.1

module _ {D : Type 0} (C : CommRingOn D) (Lowest : D → D → Type 0) where
  infixl 65 ◌⊕◌
  infixl 70 ◌⊗◌
  open C use {◌⊕◌, ◌⊗◌}

  -- x is u / v
  abbrev pub IsValue : Fraction Lowest → D → D → Type 0
  IsValue x u v = SameFraction C x.0.0 x.0.1 u v

  -- the operations of E are those of fractions: where x is a / b and y is c / d, their sum is (a · d + c · b) / (b · d)
  pub record IsFractionField (E : FieldOn (Fraction Lowest)) : Type 0 where
    pub zero_value : IsValue E.zero C.zero C.one
    pub one_value : IsValue E.one C.one C.one
    pub add_value : (x y : Fraction Lowest) (a b c d : D) → IsValue x a b → IsValue y c d
        → IsValue (E.◌⊕◌ x y) (a ⊗ d ⊕ c ⊗ b) (b ⊗ d)
    pub neg_value : (x : Fraction Lowest) (a b : D) → IsValue x a b → IsValue (E.neg x) (C.neg a) b
    pub mul_value : (x y : Fraction Lowest) (a b c d : D) → IsValue x a b → IsValue y c d
        → IsValue (E.◌⊗◌ x y) (a ⊗ c) (b ⊗ d)

-- u / v in lowest terms: v is monic, and only constants divide both
pub record IsLowest {K : Type 0} (R : CommRingOn K) (P : CommRingOn (Poly R)) (u v : Poly R) : Type 0 where
  pub monic : IsMonic R v
  pub coprime : IsCoprime R P u v
