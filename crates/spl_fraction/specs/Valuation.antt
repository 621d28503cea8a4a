-- The valuation of a fraction at a place, and the fraction with 1/x put for x. (Reiner, Maximal Orders, section 5;
-- Stichtenoth, Algebraic Function Fields and Codes, section 1.2.)
use Rattle.std.specs.Prelude.{◌≡◌, ◌<◌, ◌≤◌, ℕ, suc, ◌-◌, ℤ, pos, ◌-ℤ◌, List, length}
use Rattle.theory_rings.specs.Ops.{Ops}
use Rattle.theory_rings.specs.Sum.{at, table}
use Rattle.theory_rings.specs.Polynomial.{convolution_of, degree}
use Rattle.theory_fractions.specs.Fraction.{Pair, IsSame, IsFraction}
use Rattle.theory_fractions.specs.PolynomialLists.{IsOver, Divides}
use Rattle.spl_poly.specs.Operations.{power_coefficients}
use Rattle.spl_fraction.specs.declared.place.Place.{Place}
use Rattle.spl_fraction.specs.declared.place.Place.TheVariants.{Finite, Infinity}

-- the degree of the denominator less that of the numerator
abbrev pub HasValuationAtInfinity : {E : Type 0} → Pair E → ℤ → Type 0
HasValuationAtInfinity w n = n ≡ pos (degree w.1) -ℤ pos (degree w.0)

module _ {E : Type 0} (o : Ops E) where
  -- the fraction is (m^s · u) / (m^t · v), where m divides neither u nor v, and n is s − t
  pub record HasValuationAtPolynomial (m : List E) (w : Pair E) (n : ℤ) : Type 0 where
    pub above : ℕ
    pub below : ℕ
    pub number : n ≡ pos above -ℤ pos below
    pub u : List E
    pub v : List E
    pub u_over : IsOver o u
    pub v_over : IsOver o v
    pub value : IsSame o (at o w.0) (at o w.1) (convolution_of o (power_coefficients o m above) (at o u))
        (convolution_of o (power_coefficients o m below) (at o v))
    pub u_off : Divides o m u → ⊥
    pub v_off : Divides o m v → ⊥

  -- the coefficients of x^(n − 1) · u(1/x): the first n of u in the other order
  abbrev pub reversed : ℕ → List E → List E
  reversed n u = table n (λ k. at o u (n - suc k))

  -- c is u(1/x) / v(1/x), with numerator and denominator times the same power of x
  pub record IsSwapped (w c : Pair E) : Type 0 where
    pub size : ℕ
    pub numerator_within : length w.0 ≤ size
    pub denominator_within : length w.1 ≤ size
    pub value : IsFraction o c (reversed size w.0) (reversed size w.1)

-- the polynomial of a place is over the field, and of degree at least 1
abbrev pub IsPlaceOver : Ops ℕ → Place → Type 0
IsPlaceOver o (Finite m) = IsOver o m × (1 < length m)
IsPlaceOver o Infinity = Unit {0}

-- a fraction other than 0 has the valuation n at the place
abbrev pub HasValuation : Ops ℕ → Place → Pair ℕ → ℤ → Type 0
HasValuation o (Finite m) w n = HasValuationAtPolynomial o m w n
HasValuation o Infinity w n = HasValuationAtInfinity w n
