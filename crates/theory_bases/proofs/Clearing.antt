-- A polynomial clears a fraction exactly where their product is a polynomial.
use Rattle.std.specs.Prelude.{◌≡◌, List}
use Rattle.std.proofs.Common.{sym, ◌∙◌, ap, ap₂}
use Rattle.theory_rings.specs.Ring.{FieldOn, CommRingOn}
use Rattle.theory_rings.specs.Ops.{Ops, IsElem, FieldLaws}
use Rattle.theory_rings.specs.Elements.{Elem, elements}
use Rattle.theory_rings.specs.Sum.{at}
use Rattle.theory_rings.specs.Polynomial.{Poly, convolution_of}
use Rattle.theory_rings.proofs.Polynomials.Bezout.{field_polynomials}
use Rattle.theory_rings.proofs.Polynomials.ElementLists.{values}
use Rattle.theory_fractions.specs.PolynomialLists.{IsPolynomialList}
use Rattle.theory_fractions.specs.Fraction.{Pair}
use Rattle.theory_fractions.specs.FractionOps.{polynomial_of}
use Rattle.theory_fractions.specs.CommonDenominator.{as_fraction, Clears}
use Rattle.theory_fractions.proofs.ElementClauses.{lowest_of_elem, mul_is}
use Rattle.theory_fractions.proofs.FractionField.{polynomial_of-one, polynomial_of-values}
use Rattle.theory_fractions.proofs.Lifting.{eq_of_coefficients, has-mul}
use Rattle.theory_fractions.proofs.ListPolynomials.{has_polynomial_of, IsPolynomialList-values}
use Rattle.theory_fractions.proofs.PairEquations.{pair_over, product_of_eq}
use Rattle.theory_fractions.proofs.PolynomialFractions.{as_fraction-elem}
use Rattle.theory_bases.specs.Bases.{IsPolynomialFraction}
use Rattle.theory_bases.proofs.FractionsOver.{K}

module _ {E : Type 0} (o : Ops E) (L : FieldLaws o) where
  abbrev F : FieldOn (Elem o)
  F = elements o L

  abbrev P : CommRingOn (Poly F.cring)
  P = field_polynomials F

  abbrev k : Ops (Pair E)
  k = K o L

  abbrev poly : List E → Poly F.cring
  poly = polynomial_of o L

  pub polynomial_of_clears : (d : List E) (w : Pair E) → IsPolynomialList o d → IsElem k w → Clears o d w
      → IsPolynomialFraction o (k.mul (as_fraction o d) w)
  polynomial_of_clears d w hd hw h =
      let low = lowest_of_elem o L w hw in
      let p = poly h.0 in
      let q : List E = values o L p.0 in
      let hq : IsPolynomialList o q = IsPolynomialList-values o L p in
      let d_elem = as_fraction-elem o L d hd in
      let q_elem = as_fraction-elem o L q hq in
      let low_d = lowest_of_elem o L (as_fraction o d) d_elem in
      let low_q = lowest_of_elem o L (as_fraction o q) q_elem in
      let equal : P.◌⊗◌ (poly d) (poly w.0) ≡ P.◌⊗◌ p (poly w.1) =
      eq_of_coefficients o L (P.◌⊗◌ (poly d) (poly w.0)) (P.◌⊗◌ p (poly w.1)) (convolution_of o (at o d) (at o w.0))
      (convolution_of o (at o h.0) (at o w.1))
      (has-mul o L (poly d) (poly w.0) (at o d) (at o w.0) (has_polynomial_of o L d hd.over)
      (has_polynomial_of o L w.0 low.numerator_over))
      (has-mul o L p (poly w.1) (at o h.0) (at o w.1) (has_polynomial_of o L h.0 h.1)
      (has_polynomial_of o L w.1 low.denominator_over)) h.2 in
      sym (ap (λ (t : Pair E). t.1) (mul_is o L (as_fraction o d) w (as_fraction o q) d_elem hw low_q
      (product_of_eq o L (as_fraction o d) w (as_fraction o q) (pair_over o L (as_fraction o d) low_d)
      (pair_over o L w low) (pair_over o L (as_fraction o q) low_q)
      (ap₂ (λ x y. P.◌⊗◌ x (P.◌⊗◌ y (poly w.1))) (polynomial_of-values o L p) (polynomial_of-one o L)
      ∙ ap (P.◌⊗◌ p) (P.one-mul (poly w.1)) ∙ sym equal
      ∙ sym (P.mul-one (P.◌⊗◌ (poly d) (poly w.0)))
      ∙ ap (P.◌⊗◌ (P.◌⊗◌ (poly d) (poly w.0))) (sym (polynomial_of-one o L))))))
