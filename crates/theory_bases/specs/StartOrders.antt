-- A first order of an algebra over the rational functions: the lattice of one and the multiples of the basis elements
-- by the common denominator of all constants. (Reiner, Maximal Orders, section 8.)
use Rattle.std.specs.Prelude.{List, [], ◌∷◌, ◌++◌}
use Rattle.theory_rings.specs.Ops.{Ops, FieldLaws}
use Rattle.theory_rings.specs.Sum.{table}
use Rattle.theory_fractions.specs.PolynomialLists.{IsPolynomialList}
use Rattle.theory_fractions.specs.Fraction.{Pair}
use Rattle.theory_fractions.specs.FractionOps.{fraction_ops}
use Rattle.theory_fractions.specs.CommonDenominator.{as_fraction, IsCommonDenominator}
use Rattle.theory_spaces.specs.Tuples.{tuple_scale}
use Rattle.theory_tables.specs.Structure.{Structure, IsOver, IsAssociative, basis_of}
use Rattle.theory_tables.specs.Algebras.{IsIdentity}
use Rattle.theory_bases.specs.TupleLattices.{AreIndependentTuples, SameTupleLattice, SpanOrder}
use Rattle.theory_bases.specs.Bases.{IsPolynomialFraction}

module _ {E : Type 0} (o : Ops E) (L : FieldLaws o) where
  -- c·b_0, .., c·b_(m − 1), and one
  abbrev pub start_tuples : Structure (Pair E) → List E → List (Pair E) → List (List (Pair E))
  start_tuples A c one =
      let K : Ops (Pair E) = fraction_ops o L in
      table A.dim (λ i. tuple_scale K A.dim (as_fraction o c) (basis_of K A i)) ++ one ∷ []

  -- the combinations of the tuples with polynomials are those of one and the c·b_i, where c is the common denominator
  -- of all constants
  pub record SpansStart (A : Structure (Pair E)) (one : List (Pair E)) (tuples : List (List (Pair E))) : Type 0 where
    pub c : List E
    pub polynomial : IsPolynomialList o c
    pub common : IsCommonDenominator o A.constants c
    pub same : (let K : Ops (Pair E) = fraction_ops o L in
        SameTupleLattice K (IsPolynomialFraction o) A.dim (start_tuples A c one) tuples)

  -- they are an order over the polynomials
  abbrev pub StartOrdersAreOrders : Type 0
  StartOrdersAreOrders =
      let K : Ops (Pair E) = fraction_ops o L in
      (A : Structure (Pair E)) → IsOver K A → IsAssociative K A → (one : List (Pair E)) → IsIdentity K A one
      → (tuples : List (List (Pair E))) → AreIndependentTuples K A.dim tuples → SpansStart A one tuples
      → SpanOrder K A (IsPolynomialFraction o) tuples
