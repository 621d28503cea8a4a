-- The polynomials among the fractions are a subring.
use Rattle.std.specs.Prelude.{◌≡◌, List, [], ◌∷◌}
use Rattle.std.proofs.Common.{refl, sym, ◌∙◌, ap, ap₂}
use Rattle.theory_rings.specs.Ring.{FieldOn, CommRingOn}
use Rattle.theory_rings.specs.Ops.{Ops, IsElem, FieldLaws}
use Rattle.theory_rings.specs.Elements.{Elem, elements}
use Rattle.theory_rings.specs.Sum.{at}
use Rattle.theory_rings.specs.Polynomial.{Poly, convolution_of}
use Rattle.theory_rings.proofs.Polynomials.Bezout.{field_polynomials}
use Rattle.theory_rings.proofs.Polynomials.ElementLists.{values, at-values}
use Rattle.theory_fractions.specs.PolynomialLists.{IsPolynomialList}
use Rattle.theory_fractions.specs.Fraction.{Pair}
use Rattle.theory_fractions.specs.FractionOps.{polynomial_of}
use Rattle.theory_fractions.specs.CommonDenominator.{as_fraction}
use Rattle.theory_fractions.proofs.Coefficients.{convolution_of_congr}
use Rattle.theory_fractions.proofs.ElementClauses.{lowest_of_elem, zero_is, one_is, neg_is}
use Rattle.theory_fractions.proofs.Lifting.{coefficients_of_eq, has-add, has-mul}
use Rattle.theory_fractions.proofs.ListPolynomials.{has_polynomial_of, has_neg, IsPolynomialList-values}
use Rattle.theory_fractions.proofs.PolynomialFractions.{as_fraction-elem, as_fraction-add, as_fraction-mul}
use Rattle.theory_spaces.specs.Lattice.{IsSubring}
use Rattle.theory_bases.specs.Bases.{IsPolynomialFraction}
use Rattle.theory_bases.proofs.FractionsOver.{K, M}

module _ {E : Type 0} (o : Ops E) (L : FieldLaws o) where
  abbrev F : FieldOn (Elem o)
  F = elements o L

  abbrev P : CommRingOn (Poly F.cring)
  P = field_polynomials F

  abbrev k : Ops (Pair E)
  k = K o L

  abbrev poly : List E → Poly F.cring
  poly = polynomial_of o L

  abbrev list : Poly F.cring → List E
  list p = values o L p.0

  abbrev IsP : Pair E → Type 0
  IsP = IsPolynomialFraction o

  abbrev Is : List E → Type 0
  Is = IsPolynomialList o

  list-is : (p : Poly F.cring) → Is (list p)
  list-is p = IsPolynomialList-values o L p

  -- a fraction that is a polynomial is that of its numerator
  pub numerator-is : (a : Pair E) → IsElem k a → Is a.0
  numerator-is a h =
      let l = lowest_of_elem o L a h in
      record { over = l.numerator_over; trimmed = l.numerator_trimmed }

  pub polynomial-is : (a : Pair E) → IsP a → a ≡ as_fraction o a.0
  polynomial-is a e = ap (λ t. (a.0, t)) e

  add_in : (a b : Pair E) → IsElem k a → IsElem k b → IsP a → IsP b → IsP (k.add a b)
  add_in a b ha hb ea eb =
      let na = numerator-is a ha in
      let nb = numerator-is b hb in
      let s = P.◌⊕◌ (poly a.0) (poly b.0) in
      sym (ap (λ t. t.1) (as_fraction-add o L a.0 b.0 (list s) na nb (list-is s)
      (coefficients_of_eq o L s s (at o (list s)) (λ i. o.add (at o a.0 i) (at o b.0 i)) (at-values o L s.0)
      (has-add o L (poly a.0) (poly b.0) (at o a.0) (at o b.0) (has_polynomial_of o L a.0 na.over)
      (has_polynomial_of o L b.0 nb.over)) refl)
      ∙ sym (ap₂ k.add (polynomial-is a ea) (polynomial-is b eb))))

  mul_in : (a b : Pair E) → IsElem k a → IsElem k b → IsP a → IsP b → IsP (k.mul a b)
  mul_in a b ha hb ea eb =
      let na = numerator-is a ha in
      let nb = numerator-is b hb in
      let s = P.◌⊗◌ (poly a.0) (poly b.0) in
      sym (ap (λ t. t.1) (as_fraction-mul o L a.0 b.0 (list s) na nb (list-is s)
      (coefficients_of_eq o L s s (at o (list s)) (convolution_of o (at o a.0) (at o b.0)) (at-values o L s.0)
      (has-mul o L (poly a.0) (poly b.0) (at o a.0) (at o b.0) (has_polynomial_of o L a.0 na.over)
      (has_polynomial_of o L b.0 nb.over)) refl)
      ∙ sym (ap₂ k.mul (polynomial-is a ea) (polynomial-is b eb))))

  neg_in : (a : Pair E) → IsElem k a → IsP a → IsP (k.neg a)
  neg_in a ha ea =
      let na = numerator-is a ha in
      let s = P.neg (poly a.0) in
      sym (ap (λ t. t.1) (neg_is o L a (as_fraction o (list s)) ha
      (lowest_of_elem o L (as_fraction o (list s)) (as_fraction-elem o L (list s) (list-is s)))
      record {
        products = convolution_of_congr o L (at o (list s)) (at o a.1) (λ i. o.neg (at o a.0 i)) (at o (o.one ∷ []))
            (coefficients_of_eq o L s s (at o (list s)) (λ i. o.neg (at o a.0 i)) (at-values o L s.0)
            (has_neg o L (poly a.0) (at o a.0) (has_polynomial_of o L a.0 na.over)) refl)
            (λ i. ap (λ xs. at o xs i) ea);
      }))

  pub polynomials_are_subring : IsSubring (elements k (M o L)).ring (λ c. IsP c.0)
  polynomials_are_subring = record {
    one_in = ap (λ t. t.1) (one_is o L);
    zero_in = ap (λ t. t.1) (zero_is o L);
    add_in = λ a b. add_in a.0 b.0 a.1 b.1;
    neg_in = λ a. neg_in a.0 a.1;
    mul_in = λ a b. mul_in a.0 b.0 a.1 b.1;
  }
