-- What the laws of polynomials say.
use Rattle.std.specs.Prelude.{◌≡◌, ◌≢◌, ◌<◌, length, ◌⊎◌}
use Rattle.theory_rings.specs.Ring.{CommRingOn, FieldOn}
use Rattle.theory_rings.specs.Homomorphism.{IsRingHom}
use Rattle.theory_rings.specs.Polynomial.{Poly, lead, IsMonic, IsPolynomialRing}
use Rattle.theory_rings.specs.Division.{Divides, IsDivision, IsIrreducible, IsGcd}
use Rattle.theory_rings.specs.Remainder.{Remainder, IsRemainderRing}
use Rattle.theory_rings.specs.Fraction.{Fraction, IsValue, IsFractionField, IsLowest}
use Rattle.theory_rings.specs.Evaluation.{evaluate}

-- of each ring P of polynomials over R
abbrev pub OfPolynomials : {K : Type 0} (R : CommRingOn K) → (CommRingOn (Poly R) → Type 0) → Type 0
OfPolynomials R Law = (P : CommRingOn (Poly R)) → IsPolynomialRing R P → Law P

module _ {K : Type 0} (R : CommRingOn K) where
  -- the polynomials over R are a commutative ring
  abbrev pub HasPolynomialRing : Type 0
  HasPolynomialRing = (P : CommRingOn (Poly R)) × IsPolynomialRing R P

  -- a polynomial whose leading coefficient has an inverse divides each, with one quotient and one remainder
  abbrev pub HasDivision : Type 0
  HasDivision = OfPolynomials R (λ P. (a b : Poly R) (u : K) → 0 < length b.0 → R.◌⊗◌ (lead R b) u ≡ R.one
      → (q : Poly R) × (r : Poly R) × IsDivision R P a b q r
      × ((q' r' : Poly R) → IsDivision R P a b q' r' → (q ≡ q') × (r ≡ r')))

  -- the remainders by a monic polynomial are a commutative ring
  abbrev pub HasRemainderRings : Type 0
  HasRemainderRings = OfPolynomials R (λ P. (m : Poly R) → IsMonic R m
      → (Q : CommRingOn (Remainder R m)) × IsRemainderRing R m P Q)

-- evaluation at a point of S is a homomorphism, where the coefficients are taken into S by one
abbrev pub EvaluationIsHom : {K L : Type 0} → CommRingOn K → CommRingOn L → Type 0
EvaluationIsHom {K} {L} R S = OfPolynomials R (λ P. (h : K → L) → IsRingHom R.ring S.ring h
    → (x : L) → IsRingHom P.ring S.ring (evaluate R S h x))

module _ {K : Type 0} (F : FieldOn K) where
  -- two polynomials have a greatest common divisor that is a combination of them
  abbrev pub HasGcd : Type 0
  HasGcd = OfPolynomials F.cring (λ P. (a b : Poly F.cring) → (g : Poly F.cring) × IsGcd P a b g)

  -- an irreducible polynomial that divides a product divides a factor
  abbrev pub IrreducibleIsPrime : Type 0
  IrreducibleIsPrime = OfPolynomials F.cring (λ P. (m : Poly F.cring) → IsIrreducible F.cring P m
      → (a b : Poly F.cring) → Divides P m (P.◌⊗◌ a b) → Divides P m a ⊎ Divides P m b)

  -- the remainders by a monic irreducible polynomial are a field
  abbrev pub HasRemainderFields : Type 0
  HasRemainderFields = OfPolynomials F.cring (λ P. (m : Poly F.cring) → IsMonic F.cring m → IsIrreducible F.cring P m
      → (E : FieldOn (Remainder F.cring m)) × IsRemainderRing F.cring m P E.cring)

  -- each fraction of polynomials is that of one pair in lowest terms
  abbrev pub HasLowestTerms : Type 0
  HasLowestTerms = OfPolynomials F.cring (λ P. (u v : Poly F.cring) → v ≢ P.zero
      → (w : Fraction (IsLowest F.cring P)) × IsValue P (IsLowest F.cring P) w u v
      × ((w' : Fraction (IsLowest F.cring P)) → IsValue P (IsLowest F.cring P) w' u v → w ≡ w'))

  -- the fractions of polynomials are a field
  abbrev pub HasRationalFunctions : Type 0
  HasRationalFunctions = OfPolynomials F.cring (λ P.
      (E : FieldOn (Fraction (IsLowest F.cring P))) × IsFractionField P (IsLowest F.cring P) E)
