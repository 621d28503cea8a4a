-- Irreducible lists of coefficients are those of irreducible polynomials.
use Rattle.std.specs.Prelude.{◌≡◌, ◌≤◌, List, length}
use Rattle.std.proofs.Common.{sym, ◌∙◌, ap, arith}
use Rattle.std.proofs.Math.Bool.{Bool-set}
use Rattle.std.proofs.Math.Bridge.{le_prop}
use Rattle.theory_rings.proofs.Polynomials.PolynomialRing.{IsTrimmed-prop}
use Rattle.theory_rings.specs.Ring.{FieldOn, CommRingOn}
use Rattle.theory_rings.specs.Ops.{Ops, FieldLaws}
use Rattle.theory_rings.specs.Elements.{Elem, elements}
use Rattle.theory_rings.specs.Sum.{at}
use Rattle.theory_rings.specs.Polynomial.{Poly, convolution_of, degree, IsMonic}
use Rattle.theory_rings.specs.Division.{IsIrreducible as IsIrreducibleIn, Divides as DividesIn}
use Rattle.theory_rings.proofs.Polynomials.Bezout.{field_polynomials}
use Rattle.theory_rings.proofs.Polynomials.Degrees.{length-degree_of_ne_zero}
use Rattle.theory_rings.proofs.Polynomials.ElementLists.{values, at-values}
use Rattle.theory_rings.proofs.Polynomials.Monic.{ne_zero_of_degree, monic_of-monic, monic_of-ne-zero}
use Rattle.theory_rings.proofs.Polynomials.Monic.{degree-monic_of, irreducible-monic_of, monic_of-divides}
use Rattle.theory_rings.proofs.Polynomials.Monic.{divides-monic_of}
use Rattle.theory_fractions.specs.PolynomialLists.{IsProduct, IsPolynomialList}
use Rattle.theory_fractions.specs.FractionOps.{polynomial_of}
use Rattle.theory_fractions.proofs.FractionField.{polynomial_of-values}
use Rattle.theory_fractions.proofs.Lifting.{eq_of_coefficients, coefficients_of_eq, has-mul}
use Rattle.theory_fractions.proofs.ListPolynomials.{IsPolynomialList-values, has_polynomial_of}
use Rattle.theory_fractions.proofs.ListPolynomials.{length-polynomial_of, degree-polynomial_of}
use Rattle.theory_remainders.specs.Irreducible.{IsIrreducible}
use Rattle.theory_remainders.specs.RemainderOps.{modulus_of}

-- it is a proposition
pub IsIrreducible-prop : {E : Type 0} (o : Ops E) (m : List E) → IsProp (IsIrreducible o m)
IsIrreducible-prop o m = hlevel (IsTrimmed-prop o.zero, le_prop, Bool-set)

module _ {E : Type 0} (o : Ops E) (L : FieldLaws o) where
  abbrev F : FieldOn (Elem o)
  F = elements o L

  abbrev P : CommRingOn (Poly F.cring)
  P = field_polynomials F

  abbrev poly : List E → Poly F.cring
  poly = polynomial_of o L

  pub degree-values : (p : Poly F.cring) → degree (values o L p.0) ≡ degree p.0
  degree-values p = sym (degree-polynomial_of o L (values o L p.0) (IsPolynomialList-values o L p))
      ∙ ap (λ (t : Poly F.cring). degree t.0) (polynomial_of-values o L p)

  pub product_of_polynomials : (a b m : List E) → IsPolynomialList o a → IsPolynomialList o b → IsPolynomialList o m
      → IsProduct o a b m → poly m ≡ P.◌⊗◌ (poly a) (poly b)
  product_of_polynomials a b m ha hb hm e =
      eq_of_coefficients o L (poly m) (P.◌⊗◌ (poly a) (poly b)) (at o m) (convolution_of o (at o a) (at o b))
      (has_polynomial_of o L m hm.over)
      (has-mul o L (poly a) (poly b) (at o a) (at o b) (has_polynomial_of o L a ha.over)
      (has_polynomial_of o L b hb.over))
      e

  module _ (m : List E) (hm : IsPolynomialList o m) where
    degree-poly : degree (poly m).0 ≡ degree m
    degree-poly = degree-polynomial_of o L m hm

    pub irreducible_polynomial : IsIrreducible o m → IsIrreducibleIn F.cring P (poly m)
    irreducible_polynomial i = let s = i.positive in record {
      positive = omega (arith, degree-poly, s);
      no_factors = λ a b la lb e.
          let da = degree-values a in
          let db = degree-values b in
          let d = degree-poly in
          i.no_factors (values o L a.0) (values o L b.0) (IsPolynomialList-values o L a) (IsPolynomialList-values o L b)
          (omega arith) (omega arith)
          (coefficients_of_eq o L (poly m) (P.◌⊗◌ a b) (at o m)
          (convolution_of o (at o (values o L a.0)) (at o (values o L b.0)))
          (has_polynomial_of o L m hm.over)
          (has-mul o L a b (at o (values o L a.0)) (at o (values o L b.0)) (at-values o L a.0) (at-values o L b.0)) e);
    }

    pub irreducible_list : IsIrreducibleIn F.cring P (poly m) → IsIrreducible o m
    irreducible_list i = let s = i.positive in record {
      polynomial = hm;
      positive = omega (arith, degree-poly, s);
      no_factors = λ a b ha hb la lb e.
          let da = degree-polynomial_of o L a ha in
          let db = degree-polynomial_of o L b hb in
          let d = degree-poly in
          i.no_factors (poly a) (poly b) (omega arith) (omega arith) (product_of_polynomials a b m ha hb hm e);
    }

  -- the monic multiple of an irreducible polynomial
  module _ (m : List E) (i : IsIrreducible o m) where
    abbrev M : Poly F.cring
    M = modulus_of o L m

    pub polynomial_irreducible : IsIrreducibleIn F.cring P (poly m)
    polynomial_irreducible = irreducible_polynomial m i.polynomial i

    pub polynomial-ne-zero : poly m ≡ P.zero → ⊥
    polynomial-ne-zero = ne_zero_of_degree F (poly m) (let s = polynomial_irreducible in s.positive)

    pub modulus_monic : IsMonic F.cring M
    modulus_monic = monic_of-monic F (poly m) polynomial-ne-zero

    pub modulus_irreducible : IsIrreducibleIn F.cring P M
    modulus_irreducible = irreducible-monic_of F (poly m) polynomial-ne-zero polynomial_irreducible

    pub modulus_divides : DividesIn P M (poly m)
    modulus_divides = monic_of-divides F (poly m) polynomial-ne-zero

    pub divides_modulus : DividesIn P (poly m) M
    divides_modulus = divides-monic_of F (poly m) polynomial-ne-zero

    pub degree-modulus : degree M.0 ≡ degree m
    degree-modulus = degree-monic_of F (poly m) polynomial-ne-zero ∙ degree-polynomial_of o L m i.polynomial

    pub length-modulus : length M.0 ≡ length m
    length-modulus = omega (
      arith,
      length-degree_of_ne_zero F.cring F.zero_test M (monic_of-ne-zero F (poly m) polynomial-ne-zero),
      length-degree_of_ne_zero F.cring F.zero_test (poly m) polynomial-ne-zero,
      length-polynomial_of o L m i.polynomial,
      degree-monic_of F (poly m) polynomial-ne-zero,
    )

    pub two_le_length : 2 ≤ length m
    two_le_length = let s = polynomial_irreducible in let p = s.positive in omega (
      arith,
      length-degree_of_ne_zero F.cring F.zero_test (poly m) polynomial-ne-zero,
      length-polynomial_of o L m i.polynomial,
      p,
    )
