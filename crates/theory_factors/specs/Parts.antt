-- The part of a polynomial with irreducible factors of one degree, and the elements that split it. (Lidl and
-- Niederreiter, Finite Fields, sections 2.3 and 4.3; Cantor and Zassenhaus, 1981.)
use Rattle.std.specs.Prelude.{ℕ, ◌*◌, ◌^◌, ◌<◌, ◌≤◌}
use Rattle.theory_rings.specs.Ring.{CommRingOn, FieldOn}
use Rattle.theory_rings.specs.Sum.{sum}
use Rattle.theory_rings.specs.Power.{power}
use Rattle.theory_rings.specs.Enumerated.{Enumerated}
use Rattle.theory_rings.specs.Polynomial.{Poly, degree, IsMonic, IsConstant, IsVariable}
use Rattle.theory_rings.specs.PolynomialLaws.{OfPolynomials}
use Rattle.theory_rings.specs.Division.{Divides, Congruent, IsIrreducible}
use Rattle.theory_factors.specs.FactorLaws.{power_less}

module _ {K : Type 0} (F : FieldOn K) where
  -- each divisor of degree at least 1 has degree at least d
  abbrev pub HasDivisorsFrom : CommRingOn (Poly F.cring) → ℕ → Poly F.cring → Type 0
  HasDivisorsFrom P d a = (g : Poly F.cring) → 1 ≤ degree g.0 → Divides P g a → d ≤ degree g.0

  -- where such a polynomial has degree at least 1 and less than 2·d, it is irreducible
  abbrev pub SmallIsIrreducible : Type 0
  SmallIsIrreducible = OfPolynomials F.cring (λ P. (d : ℕ) (a : Poly F.cring) → HasDivisorsFrom P d a
      → 1 ≤ degree a.0 → degree a.0 < 2 * d → IsIrreducible F.cring P a)

  module _ (E : Enumerated K) where
    -- z + z^q + .. + z^(q^(n − 1))
    abbrev pub frobenius_trace : CommRingOn (Poly F.cring) → Poly F.cring → ℕ → Poly F.cring
    frobenius_trace P z n = sum P.monoid n (λ i. power P.ring z (E.size ^ i))

    -- a monic divisor of x^(q^d) − x without factors of degree less than d, where x is the variable
    pub record IsPart (P : CommRingOn (Poly F.cring)) (x : Poly F.cring) (d : ℕ) (g : Poly F.cring) : Type 0 where
      pub monic : IsMonic F.cring g
      pub divisors : HasDivisorsFrom P d g
      pub divides : Divides P g (power_less F P x (E.size ^ d))

    -- modulo such a part the trace of each polynomial solves z^q = z
    abbrev pub TracesSolve : CommRingOn (Poly F.cring) → Poly F.cring → Type 0
    TracesSolve P x = (d : ℕ) (g : Poly F.cring) → IsPart P x d g → (z : Poly F.cring)
        → Divides P g (power_less F P (frobenius_trace P z d) E.size)

    abbrev pub TracesAreFixed : Type 0
    TracesAreFixed = OfPolynomials F.cring (λ P. (x : Poly F.cring) → IsVariable F.cring x → TracesSolve P x)

    -- the trace of z is a constant modulo g
    abbrev pub HasConstantTrace : CommRingOn (Poly F.cring) → ℕ → Poly F.cring → Poly F.cring → Type 0
    HasConstantTrace P d g z = (c : K) × (y : Poly F.cring) × IsConstant F.cring c y
        × Congruent P g (frobenius_trace P z d) y

    -- where its degree is at least 2·d, the trace of some power of x is none
    abbrev pub NotAllAreConstant : CommRingOn (Poly F.cring) → Poly F.cring → Type 0
    NotAllAreConstant P x = (d : ℕ) (g : Poly F.cring) → IsPart P x d g → 1 ≤ d → 2 * d ≤ degree g.0
        → ((j : ℕ) → 1 ≤ j → j < degree g.0 → HasConstantTrace P d g (power P.ring x j)) → ⊥

    abbrev pub SomeTraceIsNotConstant : Type 0
    SomeTraceIsNotConstant = OfPolynomials F.cring (λ P.
        (x : Poly F.cring) → IsVariable F.cring x → NotAllAreConstant P x)
