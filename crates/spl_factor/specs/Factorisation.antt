-- Factorisations of polynomials over a program's field whose elements are numbers, as lists of coefficients, that of
-- power 0 first. (Lang, Algebra, section IV.1; Lidl and Niederreiter, Finite Fields, section 1.3.)
use Rattle.std.specs.Prelude.{◌≡◌, ℕ, ◌≤◌, List, [], ◌∷◌}
use Rattle.std.specs.declared.cmp.Ordering.TheVariants.{Less}
use Rattle.theory_rings.specs.Ops.{Ops}
use Rattle.theory_rings.specs.Sum.{at}
use Rattle.theory_rings.specs.Polynomial.{convolution_of, constant_coefficients, degree}
use Rattle.theory_remainders.specs.Irreducible.{IsIrreducible}
use Rattle.spl_poly.specs.Operations.{power_coefficients}
use Rattle.spl_poly.specs.Order.{poly_cmp}

-- polynomials with exponents
abbrev pub Powers : Type 0
Powers = List (List ℕ × ℕ)

-- a comes before each, in the order of polynomials
abbrev pub PrecedesAll : List ℕ → Powers → Type 0
PrecedesAll a [] = Unit {0}
PrecedesAll a (f ∷ fs) = (poly_cmp a f.0 ≡ Less) × PrecedesAll a fs

module _ (o : Ops ℕ) where
  -- a monic irreducible polynomial with an exponent of at least 1
  pub record IsFactor (f : List ℕ × ℕ) : Type 0 where
    pub monic : at o f.0 (degree f.0) ≡ o.one
    pub irreducible : IsIrreducible o f.0
    pub exponent : 1 ≤ f.1

  -- factors in strictly increasing order
  abbrev pub AreFactors : Powers → Type 0
  AreFactors [] = Unit {0}
  AreFactors (f ∷ fs) = IsFactor f × PrecedesAll f.0 fs × AreFactors fs

  -- the coefficients of the product of the powers
  abbrev pub product_coefficients : Powers → ℕ → ℕ
  product_coefficients [] = constant_coefficients o.zero o.one
  product_coefficients (f ∷ fs) = convolution_of o (power_coefficients o f.0 f.1) (product_coefficients fs)

  -- leading times the product of the powers is a
  abbrev pub IsMultipleOfProduct : List ℕ → ℕ → Powers → Type 0
  IsMultipleOfProduct a leading fs = (k : ℕ) → at o a k ≡ o.mul leading (product_coefficients fs k)
