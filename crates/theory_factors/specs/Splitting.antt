-- Berlekamp's splitting of a polynomial f over a field of q elements by z, where f divides z^q − z. (Lidl and
-- Niederreiter, Finite Fields, section 4.1.)
use Rattle.std.specs.Prelude.{◌≡◌, ℕ, ◌<◌, ◌≤◌}
use Rattle.theory_rings.specs.Ring.{CommRingOn, FieldOn}
use Rattle.theory_rings.specs.Enumerated.{Enumerated}
use Rattle.theory_rings.specs.Polynomial.{Poly, degree, IsMonic, IsConstant}
use Rattle.theory_rings.specs.PolynomialLaws.{OfPolynomials}
use Rattle.theory_rings.specs.Division.{Divides, IsGcd}
use Rattle.theory_radical.specs.Ideal.{product}
use Rattle.theory_factors.specs.FactorLaws.{power_less}

module _ {K : Type 0} (F : FieldOn K) where
  -- c a is the constant a, for each a in the field
  abbrev pub AreConstants : (K → Poly F.cring) → Type 0
  AreConstants c = (a : K) → IsConstant F.cring a (c a)

  -- z − y
  abbrev pub less : CommRingOn (Poly F.cring) → Poly F.cring → Poly F.cring → Poly F.cring
  less P z y = P.◌⊕◌ z (P.neg y)

  module _ (E : Enumerated K) where
    -- g k is the monic greatest common divisor of f and z − c, where c is the constant with the number k
    abbrev pub AreGcds : CommRingOn (Poly F.cring) → (K → Poly F.cring) → Poly F.cring → Poly F.cring
        → (ℕ → Poly F.cring) → Type 0
    AreGcds P c f z g = (k : ℕ) → k < E.size → IsMonic F.cring (g k) × IsGcd P f (less P z (c (E.member k))) (g k)

    -- there are such
    abbrev pub GcdsExist : Type 0
    GcdsExist = OfPolynomials F.cring (λ P. (c : K → Poly F.cring) (f z : Poly F.cring) → IsMonic F.cring f
        → (g : ℕ → Poly F.cring) × AreGcds P c f z g)

    -- where f divides z^q − z, it is the product of them
    abbrev pub IsProductOfGcds : Type 0
    IsProductOfGcds = OfPolynomials F.cring (λ P. (c : K → Poly F.cring) → AreConstants c
        → (f z : Poly F.cring) → IsMonic F.cring f → Divides P f (power_less F P z E.size)
        → (g : ℕ → Poly F.cring) → AreGcds P c f z g → f ≡ product P.ring g E.size)

    -- and where z is no constant modulo f, one of them is a proper factor
    abbrev pub OneGcdIsProper : Type 0
    OneGcdIsProper = OfPolynomials F.cring (λ P. (c : K → Poly F.cring) → AreConstants c
        → (f z : Poly F.cring) → IsMonic F.cring f → 1 ≤ degree f.0 → Divides P f (power_less F P z E.size)
        → ((a : K) → Divides P f (less P z (c a)) → ⊥)
        → (g : ℕ → Poly F.cring) → AreGcds P c f z g
        → (k : ℕ) × (k < E.size) × (1 ≤ degree (g k).0) × (degree (g k).0 < degree f.0) × Divides P (g k) f)
