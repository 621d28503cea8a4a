-- A bound on the growths of an order by denominators of its dual basis and of the constants.
use Rattle.std.specs.Prelude.{◌≢◌, ◌*◌, List, []}
use Rattle.std.proofs.Common.{sym, ◌∙◌, ap}
use Rattle.theory_rings.specs.Ops.{Ops, FieldLaws}
use Rattle.theory_rings.specs.Elements.{elements}
use Rattle.theory_rings.specs.Polynomial.{degree}
use Rattle.theory_rings.proofs.Polynomials.Bezout.{poly_mul-ne-zero}
use Rattle.theory_tables.specs.Structure.{Structure, IsOver, IsAssociative}
use Rattle.theory_fractions.specs.PolynomialLists.{IsPolynomialList, IsProduct}
use Rattle.theory_fractions.specs.Fraction.{Pair}
use Rattle.theory_fractions.specs.FractionOps.{fraction_ops, polynomial_of}
use Rattle.theory_fractions.specs.CommonDenominator.{IsCommonDenominator}
use Rattle.theory_fractions.proofs.CommonDenominators.{nonzero_of_monic}
use Rattle.theory_fractions.proofs.FractionField.{polynomial_of-nil}
use Rattle.theory_fractions.proofs.Reducing.{poly-mul, poly-ne-zero}
use Rattle.theory_places.specs.FractionPlaces.{IsMonicIrreducible}
use Rattle.theory_bases.specs.TupleLattices.{SpanOrder, AreTraceDual}
use Rattle.theory_bases.specs.Bases.{BasisForm, IsBasis, IsPolynomialFraction, tuples_of}
use Rattle.theory_growth.specs.Growths.{GrowthBound}
use Rattle.theory_growth.proofs.ClearedDuals.{dual_is_carried_by_square}
use Rattle.theory_growth.proofs.DegreeBounds.{bound_by_degree}

module _ {E : Type 0} (o : Ops E) (L : FieldLaws o) where
  -- a product of polynomials that are not 0 is not 0
  pub product-ne-nil : (a b c : List E) → IsPolynomialList o a → IsPolynomialList o b → IsPolynomialList o c
      → IsProduct o a b c → a ≢ [] → b ≢ [] → c ≢ []
  product-ne-nil a b c ha hb hc p na nb e =
      poly_mul-ne-zero (elements o L) (polynomial_of o L a) (polynomial_of o L b) (poly-ne-zero o L a ha na)
      (poly-ne-zero o L b hb nb)
      (sym (poly-mul o L a b c ha.over hb.over hc.over p) ∙ ap (polynomial_of o L) e ∙ polynomial_of-nil o L)

  module _ (A : Structure (Pair E)) (over : IsOver (fraction_ops o L) A) (assoc : IsAssociative (fraction_ops o L) A)
      (tuples : List (List (Pair E))) (O : SpanOrder (fraction_ops o L) A (IsPolynomialFraction o) tuples)
      (dual : BasisForm E) (B : IsBasis o L A.dim dual)
      (D : AreTraceDual (fraction_ops o L) A tuples (tuples_of o L dual))
      (e : List E) (he : IsPolynomialList o e) (H : IsCommonDenominator o A.constants e)
      (s : List E) (hs : IsPolynomialList o s) (ps : IsProduct o dual.denominator e s)
      (c : List E) (hc : IsPolynomialList o c) (pc : IsProduct o s s c) where
    square-ne-nil : c ≢ []
    square-ne-nil =
        let ns = product-ne-nil dual.denominator e s B.polynomial he hs ps
        (nonzero_of_monic o L dual.denominator (let l = B.least in l.monic)) (nonzero_of_monic o L e H.monic) in
        product-ne-nil s s c hs hs hc pc ns ns

    -- the dimension times the degree of the square
    pub square_bounds : (m : List E) → IsMonicIrreducible o m → GrowthBound o L A m tuples (A.dim * degree c)
    square_bounds m S =
        bound_by_degree o L A over assoc m S tuples O c hc square-ne-nil
        (dual_is_carried_by_square o L A over assoc O.one O.is_one tuples (tuples_of o L dual) O.basis
        (let i = B.independent in i.shape) D (let i = B.independent in i.count) dual.denominator e s c B.polynomial
        (let l = B.least in l.clears) he H.clears hs ps hc pc)
