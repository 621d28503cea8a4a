-- The irreducible polynomials over a field of q elements. (Lidl and Niederreiter, Finite Fields, section 3.1; Rabin,
-- Probabilistic algorithms in finite fields, 1980.)
use Rattle.std.specs.Prelude.{ℕ, ◌*◌, ◌^◌, ◌≤◌, ◌↔◌}
use Rattle.theory_rings.specs.Ring.{CommRingOn, FieldOn}
use Rattle.theory_rings.specs.Power.{power}
use Rattle.theory_rings.specs.Enumerated.{Enumerated}
use Rattle.theory_rings.specs.Polynomial.{Poly, degree, IsVariable}
use Rattle.theory_rings.specs.PolynomialLaws.{OfPolynomials}
use Rattle.theory_rings.specs.Division.{IsIrreducible, IsCoprime}

module _ {K : Type 0} (F : FieldOn K) where
  -- z^n − z
  abbrev pub power_less : CommRingOn (Poly F.cring) → Poly F.cring → ℕ → Poly F.cring
  power_less P z n = P.◌⊕◌ (power P.ring z n) (P.neg z)

  module _ (E : Enumerated K) where
    -- f is coprime to x^(q^i) − x for each i from 1 with 2·i at most the degree of f
    abbrev pub IsCoprimeToPowers : CommRingOn (Poly F.cring) → Poly F.cring → Poly F.cring → Type 0
    IsCoprimeToPowers P x f = (i : ℕ) → 1 ≤ i → 2 * i ≤ degree f.0 → IsCoprime F.cring P f (power_less P x (E.size ^ i))

    -- a polynomial of degree at least 1 is irreducible exactly where it is so, x the variable
    abbrev pub IrreducibleIffCoprime : Type 0
    IrreducibleIffCoprime = OfPolynomials F.cring (λ P. (x : Poly F.cring) → IsVariable F.cring x
        → (f : Poly F.cring) → 1 ≤ degree f.0 → IsIrreducible F.cring P f ↔ IsCoprimeToPowers P x f)
