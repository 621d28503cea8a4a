-- Fractions over a program's field modulo an irreducible polynomial. (Reiner, Maximal Orders, section 4; Stichtenoth,
-- Algebraic Function Fields and Codes, section 1.2.)
use Rattle.std.specs.Prelude.{◌≡◌, ◌≢◌, List, []}
use Rattle.theory_rings.specs.Ring.{FieldOn}
use Rattle.theory_rings.specs.Ops.{Ops, FieldLaws}
use Rattle.theory_rings.specs.Elements.{Elem, elements}
use Rattle.theory_rings.specs.Sum.{at}
use Rattle.theory_spaces.specs.Valuation.{ValuationOn, IsIntegral}
use Rattle.theory_residue.specs.Residue.{ResidueOn}
use Rattle.theory_fractions.specs.PolynomialLists.{IsPolynomialList}
use Rattle.theory_fractions.specs.Fraction.{Pair}
use Rattle.theory_fractions.specs.FractionOps.{fraction_ops}
use Rattle.theory_fractions.specs.CommonDenominator.{as_fraction}
use Rattle.theory_remainders.specs.Irreducible.{IsIrreducible}
use Rattle.theory_remainders.specs.RemainderLaws.{IsRemainder, IsRemainderOf}
use Rattle.theory_remainders.specs.RemainderOps.{remainder_ops}
use Rattle.theory_remainders.proofs.RemainderField.{monic}

module _ {E : Type 0} (o : Ops E) (m : List E) (remainders : Ops (List E)) where
  -- r is the residue of the fraction u/v: m doesn't divide v, and r is the remainder of u times the inverse of that of
  -- v, by the operations on remainders
  pub record IsResidueOf (w : Pair E) (r : List E) : Type 0 where
    pub upper : List E
    pub lower : List E
    pub upper_small : IsRemainder o m upper
    pub lower_small : IsRemainder o m lower
    pub numerator : IsRemainderOf o (at o w.0) m upper
    pub denominator : IsRemainderOf o (at o w.1) m lower
    pub nonzero : lower ≢ []
    pub quotient : r ≡ remainders.mul upper (remainders.inv lower)

module _ {E : Type 0} (o : Ops E) (L : FieldLaws o) (M : FieldLaws (fraction_ops o L)) where
  abbrev pub fractions : FieldOn (Elem (fraction_ops o L))
  fractions = elements (fraction_ops o L) M

  -- a valuation ring whose residue field is that of the remainders, so that each fraction with a residue is in it and
  -- has this residue; a polynomial is in it, and has its remainder
  pub record ReductionBy (m : List E) (r : Ops (List E)) (N : FieldLaws r) : Type 0 where
    pub valuation : ValuationOn fractions
    pub q : Elem (fraction_ops o L)
    pub residue : ResidueOn fractions valuation q (elements r N)
    pub integral : (w : Elem (fraction_ops o L)) (x : List E) → IsResidueOf o m r w.0 x
        → IsIntegral fractions valuation w
    pub value : (w : Elem (fraction_ops o L)) (x : List E) → IsResidueOf o m r w.0 x → (residue.res w).0 ≡ x
    pub polynomial_in : (w : Elem (fraction_ops o L)) (p : List E) → IsPolynomialList o p → w.0 ≡ as_fraction o p
        → IsIntegral fractions valuation w
    pub polynomial_value : (w : Elem (fraction_ops o L)) (p x : List E) → IsPolynomialList o p → w.0 ≡ as_fraction o p
        → IsRemainder o m x → IsRemainderOf o (at o p) m x → (residue.res w).0 ≡ x

  -- each irreducible polynomial has one
  abbrev pub FractionsReduce : Type 0
  FractionsReduce = (m : List E) (i : IsIrreducible o m)
      → (let r = remainder_ops o L m (monic o L m i) in (N : FieldLaws r) → ReductionBy m r N)
