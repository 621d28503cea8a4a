-- Divisibility in a commutative ring, and division of polynomials with remainder.
use Rattle.std.specs.Prelude.{◌≡◌, ◌≢◌, ◌<◌, ◌≤◌, length}
use Rattle.theory_rings.specs.Ring.{CommRingOn}
use Rattle.theory_rings.specs.Polynomial.{Poly, degree}

module _ {K : Type 0} (C : CommRingOn K) where
  -- a divides b
  abbrev pub Divides : K → K → Type 0
  Divides a b = (c : K) × (b ≡ C.◌⊗◌ c a)

  -- a and b differ by a multiple of m
  abbrev pub Congruent : K → K → K → Type 0
  Congruent m a b = (c : K) × (a ≡ C.◌⊕◌ b (C.◌⊗◌ c m))

module _ {K : Type 0} (R : CommRingOn K) (P : CommRingOn (Poly R)) where
  -- a is q · b + r, where r is of smaller degree than b; as 0 has no coefficients, it counts as smaller than a constant
  pub record IsDivision (a b q r : Poly R) : Type 0 where
    pub whole : a ≡ P.◌⊕◌ (P.◌⊗◌ q b) r
    pub smaller : length r.0 < length b.0

  -- of degree at least 1, and no product of two polynomials of smaller degree
  pub record IsIrreducible (m : Poly R) : Type 0 where
    pub positive : 1 ≤ degree m.0
    pub no_factors : (a b : Poly R) → degree a.0 < degree m.0 → degree b.0 < degree m.0 → m ≢ P.◌⊗◌ a b

  -- each common divisor is a constant
  abbrev pub IsCoprime : Poly R → Poly R → Type 0
  IsCoprime a b = (g : Poly R) → Divides P g a → Divides P g b → degree g.0 ≡ 0

-- g divides a and b, and is a combination of them
pub record IsGcd {K : Type 0} (C : CommRingOn K) (a b g : K) : Type 0 where
  pub left : Divides C g a
  pub right : Divides C g b
  pub s : K
  pub t : K
  pub combined : g ≡ C.◌⊕◌ (C.◌⊗◌ s a) (C.◌⊗◌ t b)
