-- Rational functions over a field: the ring of polynomials and the variable, fractions of polynomials, their degree,
-- the constants and the polynomials among them, and the powers of x. The ring and the fractions u / 1 are those that
-- theory_rings makes; AreFractionsOfPolynomials, a law, says what they are by coefficients and by value, so that
-- nothing of how they are made has to be read.
use Rattle.std.specs.Prelude.{◌≡◌, ℕ, pos, ◌-ℤ◌}
use Rattle.theory_rings.specs.Ring.{CommRingOn, FieldOn}
use Rattle.theory_rings.specs.Power.{power}
use Rattle.theory_rings.specs.Polynomial.{Poly, IsPolynomialRing, IsConstant, IsVariable, degree}
use Rattle.theory_rings.specs.Fraction.{Fraction, IsValue, IsFractionField, IsLowest}
use Rattle.theory_rings.proofs.Polynomials.Bezout.{field_polynomials}
use Rattle.theory_rings.proofs.Polynomials.PolynomialRing.{constant}
use Rattle.theory_rings.proofs.Polynomials.Constants.{variable}
use Rattle.theory_rings.proofs.Fractions.Fractions.{fraction_of}
use Rattle.theory_rings.proofs.Fractions.Lowest.{polynomial_reduction}
use Rattle.theory_lattices.specs.Degree.{DegreeOn}

module _ {k : Type 0} (F : FieldOn k) where
  -- the ring of polynomials
  abbrev pub polynomial_ring : CommRingOn (Poly F.cring)
  polynomial_ring = field_polynomials F

  -- the polynomial x
  abbrev pub x_polynomial : Poly F.cring
  x_polynomial = variable F.cring F.zero_test

-- the degree of a polynomial
pub record IsPolynomialDegree {k : Type 0} (F : FieldOn k) (W : DegreeOn (polynomial_ring F).ring) : Type 0 where
  pub degree-is : (a : Poly F.cring) → W.deg a ≡ pos (degree a.0)

module _ {k : Type 0} (F : FieldOn k) where
  -- numerator and denominator in lowest terms
  abbrev pub Rational : Type 0
  Rational = Fraction (IsLowest F.cring (polynomial_ring F))

  -- the operations are those of fractions
  abbrev pub IsRationalField : FieldOn Rational → Type 0
  IsRationalField = IsFractionField (polynomial_ring F) (IsLowest F.cring (polynomial_ring F))

  -- x is u / 1 for a polynomial u
  abbrev pub IsPolynomial : Rational → Type 0
  IsPolynomial x = (u : Poly F.cring)
      × IsValue (polynomial_ring F) (IsLowest F.cring (polynomial_ring F)) x u (polynomial_ring F).one

  -- u / 1
  abbrev pub of_polynomial : Poly F.cring → Rational
  of_polynomial u = fraction_of (polynomial_ring F) (IsLowest F.cring (polynomial_ring F))
      (polynomial_reduction F) u

  -- the constant c
  abbrev pub of_constant : k → Rational
  of_constant c = of_polynomial (constant F.cring F.zero_test c)

  -- x^n
  abbrev pub power_of_x : ℕ → Rational
  power_of_x n = of_polynomial (power (polynomial_ring F).ring (x_polynomial F) n)

  -- the ring, the variable, the fractions u / 1 and the constants are these
  pub record AreFractionsOfPolynomials : Type 0 where
    pub ring : IsPolynomialRing F.cring (polynomial_ring F)
    pub variable : IsVariable F.cring (x_polynomial F)
    pub values : (u : Poly F.cring) → IsValue (polynomial_ring F) (IsLowest F.cring (polynomial_ring F))
        (of_polynomial u) u (polynomial_ring F).one
    pub constants : (c : k) → (u : Poly F.cring) × IsConstant F.cring c u × (of_constant c ≡ of_polynomial u)

  -- the degree of the numerator less that of the denominator
  pub record IsRationalDegree (Q : FieldOn Rational) (W : DegreeOn Q.ring) : Type 0 where
    pub degree-is : (x : Rational) → W.deg x ≡ pos (degree x.0.0.0) -ℤ pos (degree x.0.1.0)
