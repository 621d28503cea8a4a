-- The lattices of first orders of an algebra are one, as the common denominator of its constants is.
use Rattle.std.specs.Prelude.{◌≡◌, ◌≢◌, ◌<◌, List, [], ◌∷◌, length}
use Rattle.std.proofs.Common.{refl, sym, ◌∙◌, ap, subst, arith}
use Rattle.theory_rings.specs.Ring.{FieldOn}
use Rattle.theory_rings.specs.Ops.{Ops, FieldLaws}
use Rattle.theory_rings.specs.Elements.{Elem, elements}
use Rattle.theory_rings.specs.Polynomial.{Poly}
use Rattle.theory_rings.proofs.Polynomials.ElementLists.{values}
use Rattle.theory_rings.proofs.Fractions.Lowest.{monic_eq_of_divides}
use Rattle.theory_spaces.specs.Sets.{Within}
use Rattle.theory_tables.specs.Structure.{Structure}
use Rattle.theory_fractions.specs.PolynomialLists.{IsPolynomialList}
use Rattle.theory_fractions.specs.Fraction.{Pair}
use Rattle.theory_fractions.specs.FractionOps.{polynomial_of}
use Rattle.theory_fractions.specs.CommonDenominator.{IsCommonDenominator}
use Rattle.theory_fractions.proofs.CommonDenominators.{nonzero_of_monic, poly_divides}
use Rattle.theory_fractions.proofs.ListPolynomials.{values_back}
use Rattle.theory_remainders.proofs.GcdLists.{monic_polynomial}
use Rattle.theory_bases.specs.StartOrders.{start_tuples, SpansStart}
use Rattle.theory_growth.specs.Growths.{PolynomialLattice}

length_pos : {X : Type 0} (xs : List X) → xs ≢ [] → 0 < length xs
length_pos [] n = absurd (n refl)
length_pos (x ∷ xs) n = omega arith

module _ {E : Type 0} (o : Ops E) (L : FieldLaws o) where
  abbrev F : FieldOn (Elem o)
  F = elements o L

  same_denominator : (list : List (Pair E)) (c d : List E) → IsPolynomialList o c → IsPolynomialList o d
      → IsCommonDenominator o list c → IsCommonDenominator o list d → c ≡ d
  same_denominator list c d hc hd C D =
      sym (values_back o L c hc)
      ∙ ap (λ (x : Poly F.cring). values o L x.0)
      (monic_eq_of_divides F (polynomial_of o L c) (polynomial_of o L d)
      (monic_polynomial o L c hc (length_pos c (nonzero_of_monic o L c C.monic)) C.monic)
      (monic_polynomial o L d hd (length_pos d (nonzero_of_monic o L d D.monic)) D.monic)
      (poly_divides o L c d hc.over hd.over (C.least d hd.over D.clears))
      (poly_divides o L d c hd.over hc.over (D.least c hc.over C.clears)))
      ∙ values_back o L d hd

  -- each lies within the other
  pub starts_within : (A : Structure (Pair E)) (one : List (Pair E)) (a b : List (List (Pair E)))
      → SpansStart o L A one a → SpansStart o L A one b → Within (PolynomialLattice o L A a) (PolynomialLattice o L A b)
  starts_within A one a b S T x h = T.same.0 x
      (subst (λ c. PolynomialLattice o L A (start_tuples o L A c one) x)
      (same_denominator A.constants S.c T.c S.polynomial T.polynomial S.common T.common) (S.same.1 x h))
