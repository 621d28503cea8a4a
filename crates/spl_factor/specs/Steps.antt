-- What the steps of a factorisation say, of polynomials over a small field.
use Rattle.std.specs.Prelude.{◌≡◌, ℕ, ◌^◌, List, [], ◌∷◌}
use Rattle.theory_rings.specs.Ring.{FieldOn, CommRingOn}
use Rattle.theory_rings.specs.Elements.{Elem, elements}
use Rattle.theory_rings.specs.Power.{power}
use Rattle.theory_rings.specs.Polynomial.{Poly, IsMonic}
use Rattle.theory_rings.specs.Division.{Divides, Congruent, IsGcd}
use Rattle.theory_rings.proofs.Polynomials.Bezout.{field_polynomials}
use Rattle.theory_rings.proofs.Polynomials.Constants.{variable}
use Rattle.theory_fractions.specs.PolynomialLists.{IsPolynomialList}
use Rattle.theory_fractions.specs.FractionOps.{polynomial_of}
use Rattle.theory_factors.specs.FactorLaws.{power_less}
use Rattle.theory_factors.specs.Parts.{IsPart, frobenius_trace}
use Rattle.spl_field.specs.SmallField.{small_ops, small_laws}
use Rattle.spl_field.specs.declared.small.SmallField.{SmallField}
use Rattle.spl_residue.proofs.Numbers.{small_numbers}
use Rattle.spl_factor.specs.Factorisation.{Powers, AreFactors}

module _ (f : SmallField) where
  abbrev pub field : FieldOn (Elem (small_ops f))
  field = elements (small_ops f) (small_laws f)

  abbrev pub ring : CommRingOn (Poly field.cring)
  ring = field_polynomials field

  -- the polynomial with these coefficients
  abbrev pub poly : List ℕ → Poly field.cring
  poly a = polynomial_of (small_ops f) (small_laws f) a

  -- the variable
  abbrev pub x : Poly field.cring
  x = variable field.cring field.zero_test

  -- the coefficients of a monic polynomial
  pub record IsMonicList (a : List ℕ) : Type 0 where
    pub polynomial : IsPolynomialList (small_ops f) a
    pub monic : IsMonic field.cring (poly a)

  -- a divides b
  abbrev pub DividesList : List ℕ → List ℕ → Type 0
  DividesList a b = Divides ring (poly a) (poly b)

  -- g is the monic greatest common divisor of a and b
  pub record IsMonicGcd (a b g : List ℕ) : Type 0 where
    pub list : IsMonicList g
    pub gcd : IsGcd ring (poly a) (poly b) (poly g)

  -- b is the n-th power of a, modulo m
  abbrev pub IsPowerModulo : List ℕ → List ℕ → ℕ → List ℕ → Type 0
  IsPowerModulo m a n b = Congruent ring (poly m) (power ring.ring (poly a) n) (poly b)

  -- b is x^(q^d), modulo m
  abbrev pub IsVariablePower : List ℕ → ℕ → List ℕ → Type 0
  IsVariablePower m d b = Congruent ring (poly m) (power ring.ring x ((let N = small_numbers f in N.size) ^ d)) (poly b)

  -- b is z + z^q + .. + z^(q^(d − 1)), modulo m
  abbrev pub IsTraceModulo : List ℕ → ℕ → List ℕ → List ℕ → Type 0
  IsTraceModulo m d z b = Congruent ring (poly m) (frobenius_trace field (small_numbers f) ring (poly z) d) (poly b)

  -- modulo m, t solves z^q = z
  abbrev pub IsFixedModulo : List ℕ → List ℕ → Type 0
  IsFixedModulo m t = Divides ring (poly m) (power_less field ring (poly t) (let N = small_numbers f in N.size))

  -- a monic polynomial whose irreducible factors have degree d, each once
  pub record IsPartList (d : ℕ) (g : List ℕ) : Type 0 where
    pub polynomial : IsPolynomialList (small_ops f) g
    pub part : IsPart field (small_numbers f) ring x d (poly g)

  -- the product of the powers
  abbrev pub product_of_powers : Powers → Poly field.cring
  product_of_powers [] = ring.one
  product_of_powers (p ∷ ps) = ring.◌⊗◌ (power ring.ring (poly p.0) p.1) (product_of_powers ps)

  -- none of the polynomials divides a
  abbrev pub NoneDivides : List ℕ → Powers → Type 0
  NoneDivides a [] = Unit {0}
  NoneDivides a (p ∷ ps) = (DividesList p.0 a → ⊥) × NoneDivides a ps

  -- factors, and what is left, which they do not divide
  pub record IsWork (rest : List ℕ) (list : Powers) : Type 0 where
    pub monic : IsMonicList rest
    pub factors : AreFactors (small_ops f) list
    pub apart : NoneDivides rest list

  -- after a step: the whole product is as before
  pub record IsNext (rest : List ℕ) (list : Powers) (rest' : List ℕ) (list' : Powers) : Type 0 where
    pub work : IsWork rest' list'
    pub whole : ring.◌⊗◌ (product_of_powers list') (poly rest') ≡ ring.◌⊗◌ (product_of_powers list) (poly rest)
    pub divides : DividesList rest' rest
