-- Irreducible factors, and factorisations in a given order, of polynomials over a field.
-- (Lang, Algebra, section IV.1; Lidl and Niederreiter, Finite Fields, section 1.3.)
use Rattle.std.specs.Prelude.{◌≡◌, ℕ, ◌≤◌, Bool, true, List, [], ◌∷◌}
use Rattle.theory_rings.specs.Ring.{CommRingOn, FieldOn}
use Rattle.theory_rings.specs.Power.{power}
use Rattle.theory_rings.specs.Polynomial.{Poly, degree, IsMonic}
use Rattle.theory_rings.specs.PolynomialLaws.{OfPolynomials}
use Rattle.theory_rings.specs.Division.{Divides, IsIrreducible}

module _ {K : Type 0} (R : CommRingOn K) where
  -- polynomials with exponents
  abbrev pub Factors : Type 0
  Factors = List (Poly R × ℕ)

  -- the product of their powers
  abbrev pub product_of : CommRingOn (Poly R) → Factors → Poly R
  product_of P [] = P.one
  product_of P (f ∷ fs) = P.◌⊗◌ (power P.ring f.0 f.1) (product_of P fs)

  -- g comes before each
  abbrev pub PrecedesAll : (Poly R → Poly R → Type 0) → Poly R → Factors → Type 0
  PrecedesAll Less g [] = Unit {0}
  PrecedesAll Less g (f ∷ fs) = Less g f.0 × PrecedesAll Less g fs

  -- a factor of a factorisation
  pub record IsFactor (P : CommRingOn (Poly R)) (f : Poly R × ℕ) : Type 0 where
    pub monic : IsMonic R f.0
    pub irreducible : IsIrreducible R P f.0
    pub exponent : 1 ≤ f.1

  -- monic irreducible polynomials in order, each once, with exponents from 1
  abbrev pub IsFactorisation : CommRingOn (Poly R) → (Poly R → Poly R → Type 0) → Factors → Type 0
  IsFactorisation P Less [] = Unit {0}
  IsFactorisation P Less (f ∷ fs) = IsFactor P f × PrecedesAll Less f.0 fs × IsFactorisation P Less fs

module _ {K : Type 0} (F : FieldOn K) where
  -- each polynomial of degree at least 1 has a monic irreducible factor
  abbrev pub HasIrreducibleFactors : Type 0
  HasIrreducibleFactors = OfPolynomials F.cring (λ P. (f : Poly F.cring) → 1 ≤ degree f.0
      → (g : Poly F.cring) × IsMonic F.cring g × IsIrreducible F.cring P g × Divides P g f)

  -- where no two polynomials come before each other, two factorisations with one product are one
  abbrev pub FactorisationIsUnique : Type 0
  FactorisationIsUnique = OfPolynomials F.cring (λ P. (less : Poly F.cring → Poly F.cring → Bool)
      → ((a b : Poly F.cring) → less a b ≡ true → less b a ≡ true → ⊥)
      → (xs ys : Factors F.cring) → IsFactorisation F.cring P (λ a b. less a b ≡ true) xs
      → IsFactorisation F.cring P (λ a b. less a b ≡ true) ys
      → product_of F.cring P xs ≡ product_of F.cring P ys → xs ≡ ys)
