-- Polynomials as fractions with the denominator 1: their sums and products are those of the field of fractions.
use Rattle.std.specs.Prelude.{◌≡◌, ℕ, List, [], ◌∷◌}
use Rattle.std.proofs.Common.{refl, sym, ◌∙◌, ap, ap₂}
use Rattle.theory_rings.specs.Ring.{FieldOn, CommRingOn}
use Rattle.theory_rings.specs.Ops.{Ops, IsElem, FieldLaws}
use Rattle.theory_rings.specs.Elements.{Elem, elements}
use Rattle.theory_rings.specs.Sum.{at}
use Rattle.theory_rings.specs.Polynomial.{Poly, convolution_of}
use Rattle.theory_rings.proofs.Rings.Solver.{◌⊠◌, ring3}
use Rattle.theory_rings.proofs.Polynomials.Bezout.{field_polynomials}
use Rattle.theory_rings.proofs.Polynomials.ElementLists.{values}
use Rattle.theory_fractions.specs.PolynomialLists.{IsSum, IsProduct, IsPolynomialList}
use Rattle.theory_fractions.specs.Fraction.{Pair, IsLowestTerms}
use Rattle.theory_fractions.specs.FractionOps.{polynomial_of, fraction_ops}
use Rattle.theory_fractions.specs.CommonDenominator.{as_fraction}
use Rattle.theory_fractions.proofs.FractionField.{polynomial_of-one, polynomial_of-values}
use Rattle.theory_fractions.proofs.ListPolynomials.{IsPolynomialList-values}
use Rattle.theory_fractions.proofs.PairEquations.{pair_over, product_of_eq}
use Rattle.theory_fractions.proofs.Reducing.{poly-mul, lowest_over_one}
use Rattle.theory_fractions.proofs.SumsOfFractions.{lowest_sum_of_polynomials}
use Rattle.theory_fractions.proofs.ElementClauses.{elem_of_lowest, lowest_of_elem, add_is, mul_is}
use Rattle.theory_fractions.proofs.CommonDenominators.{product_of_poly}

module _ {E : Type 0} (o : Ops E) (L : FieldLaws o) where
  abbrev F : FieldOn (Elem o)
  F = elements o L

  abbrev P : CommRingOn (Poly F.cring)
  P = field_polynomials F

  abbrev K : Ops (Pair E)
  K = fraction_ops o L

  abbrev Is : List E → Type 0
  Is = IsPolynomialList o

  abbrev poly : List E → Poly F.cring
  poly = polynomial_of o L

  low : (p : List E) → Is p → IsLowestTerms o p (o.one ∷ [])
  low p hp = lowest_over_one o L p hp

  pub as_fraction-elem : (p : List E) → Is p → IsElem K (as_fraction o p)
  as_fraction-elem p hp = elem_of_lowest o L (as_fraction o p) (low p hp)

  pub as_fraction-add : (a b c : List E) → Is a → Is b → Is c → IsSum o a b c
      → as_fraction o c ≡ K.add (as_fraction o a) (as_fraction o b)
  as_fraction-add a b c ha hb hc e =
      let s = lowest_sum_of_polynomials o L (as_fraction o a) (as_fraction o b) (as_fraction o c) c (o.one ∷ [])
      (low a ha) (low b hb) refl refl hc e refl refl in
      add_is o L (as_fraction o a) (as_fraction o b) (as_fraction o c) (as_fraction-elem a ha) (as_fraction-elem b hb)
      s.lowest s.sum

  -- c·(u / v) is the polynomial q·u, where c is q·v
  pub as_fraction-mul_fraction : (c : List E) (w : Pair E) (q e : List E) → Is c → IsElem K w → Is q → Is e
      → poly c ≡ P.◌⊗◌ (poly q) (poly w.1) → IsProduct o q w.0 e
      → as_fraction o e ≡ K.mul (as_fraction o c) w
  as_fraction-mul_fraction c w q e hc hw hq he whole product =
      let h : IsLowestTerms o w.0 w.1 = lowest_of_elem o L w hw in
      mul_is o L (as_fraction o c) w (as_fraction o e) (as_fraction-elem c hc) hw (low e he)
      (product_of_eq o L (as_fraction o c) w (as_fraction o e) (pair_over o L (as_fraction o c) (low c hc))
      (pair_over o L w h) (pair_over o L (as_fraction o e) (low e he))
      (ap₂ (λ x y. P.◌⊗◌ x (P.◌⊗◌ y (poly w.1))) (poly-mul o L q w.0 e hq.over h.numerator_over he.over product)
      (polynomial_of-one o L)
      ∙ ap (P.◌⊗◌ (P.◌⊗◌ (poly q) (poly w.0))) (P.one-mul (poly w.1))
      ∙ ring3 P (λ q u v. ((q ⊠ u) ⊠ v, (q ⊠ v) ⊠ u)) refl (poly q) (poly w.0) (poly w.1)
      ∙ ap (λ x. P.◌⊗◌ x (poly w.0)) (sym whole)
      ∙ sym (P.one-mul (P.◌⊗◌ (poly c) (poly w.0)))
      ∙ P.mul_comm P.one (P.◌⊗◌ (poly c) (poly w.0))
      ∙ ap (P.◌⊗◌ (P.◌⊗◌ (poly c) (poly w.0))) (sym (polynomial_of-one o L))))

  pub as_fraction-mul : (a b c : List E) → Is a → Is b → Is c → IsProduct o a b c
      → as_fraction o c ≡ K.mul (as_fraction o a) (as_fraction o b)
  as_fraction-mul a b c ha hb hc e =
      as_fraction-mul_fraction a (as_fraction o b) a c ha (as_fraction-elem b hb) ha hc
      (sym (P.one-mul (poly a)) ∙ P.mul_comm P.one (poly a) ∙ ap (P.◌⊗◌ (poly a)) (sym (polynomial_of-one o L))) e

  -- s + a·b, by its coefficients
  pub as_fraction-add_product : (s a b r : List E) → Is s → Is a → Is b → Is r
      → ((k : ℕ) → at o r k ≡ o.add (at o s k) (convolution_of o (at o a) (at o b) k))
      → as_fraction o r ≡ K.add (as_fraction o s) (K.mul (as_fraction o a) (as_fraction o b))
  as_fraction-add_product s a b r hs ha hb hr e =
      let q : Poly F.cring = P.◌⊗◌ (poly a) (poly b) in
      let p : List E = values o L q.0 in
      let hp : Is p = IsPolynomialList-values o L q in
      let product : IsProduct o a b p =
      product_of_poly o L a b p ha.over hb.over hp.over (polynomial_of-values o L q) in
      as_fraction-add s p r hs hp hr (λ k. e k ∙ ap (o.add (at o s k)) (sym (product k)))
      ∙ ap (K.add (as_fraction o s)) (as_fraction-mul a b p ha hb hp product)
