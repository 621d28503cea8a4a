-- Rings R[t]/(f)[x]/(g), for a monic f over R and a monic g over R[t]/(f): over the integers modulo p they are the
-- residue fields of F_p[t]/(f)[x], and over those modulo p^n their lift rings.
use Rattle.std.specs.Prelude.{◌≡◌, ℕ, ◌^◌, ◌≤◌}
use Rattle.theory_rings.specs.Ring.{CommRingOn, FieldOn}
use Rattle.theory_rings.specs.IntegersMod.{integers_mod, residue}
use Rattle.theory_rings.specs.Polynomial.{Poly, coefficient, IsMonic, IsPolynomialRing}
use Rattle.theory_rings.specs.Division.{IsIrreducible}
use Rattle.theory_rings.specs.Remainder.{Remainder, IsRemainderRing}
use Rattle.theory_radical.specs.LiftRing.{LiftRingOn}

-- the rings of polynomials and of remainders on the way
pub record TowerOver {K : Type 0} (R : CommRingOn K) : Type 0 where
  pub first_polynomials : CommRingOn (Poly R)
  pub first_polynomials_is : IsPolynomialRing R first_polynomials
  pub first_modulus : Poly R
  pub first_monic : IsMonic R first_modulus
  pub first : CommRingOn (Remainder R first_modulus)
  pub first_is : IsRemainderRing R first_modulus first_polynomials first
  pub second_polynomials : CommRingOn (Poly first)
  pub second_polynomials_is : IsPolynomialRing first second_polynomials
  pub second_modulus : Poly first
  pub second_monic : IsMonic first second_modulus
  pub second : CommRingOn (Remainder first second_modulus)
  pub second_is : IsRemainderRing first second_modulus second_polynomials second

module _ {K : Type 0} {R : CommRingOn K} (T : TowerOver R) where
  abbrev pub TowerElement : Type 0
  TowerElement = Remainder T.first T.second_modulus

  -- the coefficient of a polynomial in x over R[t]/(f) at x^u·t^v
  abbrev pub double_coefficient : Poly T.first → ℕ → ℕ → K
  double_coefficient a u v = coefficient R (coefficient T.first a u).0 v

  -- both moduli are irreducible
  pub record IsIrreducibleTower : Type 0 where
    pub first : IsIrreducible R T.first_polynomials T.first_modulus
    pub second : IsIrreducible T.first T.second_polynomials T.second_modulus

-- such a ring over the integers modulo q
abbrev pub TowerMod : (q : ℕ) → 2 ≤ q → Type 0
TowerMod q two_le = TowerOver (integers_mod q two_le)

module _ (p n : ℕ) (two_le : 2 ≤ p) (two_le_pow : 2 ≤ p ^ n) where
  -- the moduli of T reduce to those of k
  pub record Reduces (T : TowerMod (p ^ n) two_le_pow) (k : TowerMod p two_le) : Type 0 where
    pub first : (v : ℕ) → coefficient (integers_mod p two_le) k.first_modulus v ≡ residue p two_le
        (coefficient (integers_mod (p ^ n) two_le_pow) T.first_modulus v).0
    pub second : (u v : ℕ)
        → double_coefficient k k.second_modulus u v ≡ residue p two_le (double_coefficient T T.second_modulus u v).0

  -- the moduli of T have the numbers below p that are the coefficients of those of k
  pub record HasSameNumbers (T : TowerMod (p ^ n) two_le_pow) (k : TowerMod p two_le) : Type 0 where
    pub first : (v : ℕ) → (coefficient (integers_mod (p ^ n) two_le_pow) T.first_modulus v).0 ≡
        (coefficient (integers_mod p two_le) k.first_modulus v).0
    pub second : (u v : ℕ)
        → (double_coefficient T T.second_modulus u v).0 ≡ (double_coefficient k k.second_modulus u v).0

  -- down takes each coefficient modulo p
  abbrev pub IsCoefficientwise : (T : TowerMod (p ^ n) two_le_pow) (k : TowerMod p two_le)
      → (TowerElement T → TowerElement k) → Type 0
  IsCoefficientwise T k down = (y : TowerElement T) (u v : ℕ)
      → double_coefficient k (down y).0 u v ≡ residue p two_le (double_coefficient T y.0 u v).0

-- L is the lift ring that T gives of the field k: it has the ring of T, and each coefficient goes to its residue modulo
-- p
pub record IsTowerLift (p n : ℕ) (two_le : 2 ≤ p) (two_le_pow : 2 ≤ p ^ n) (T : TowerMod (p ^ n) two_le_pow)
    (k : TowerMod p two_le)
    (F : FieldOn (TowerElement k)) (L : LiftRingOn F p n (TowerElement T)) : Type 0 where
  pub ring : L.ring ≡ T.second
  pub down : IsCoefficientwise p n two_le two_le_pow T k L.down
