-- Left orders of ideals of orders in an algebra over the fractions, at a place and over the polynomials. (Reiner,
-- Maximal Orders, section 8.)
use Rattle.std.specs.Prelude.{◌≡◌, ◌*◌, ◌/◌, ◌%◌, ℕ, List}
use Rattle.theory_rings.specs.Ops.{Ops, FieldLaws}
use Rattle.theory_rings.specs.Sum.{table}
use Rattle.theory_fractions.specs.Fraction.{Pair}
use Rattle.theory_fractions.specs.FractionOps.{fraction_ops}
use Rattle.theory_fractions.specs.CommonDenominator.{as_fraction}
use Rattle.theory_spaces.specs.Sets.{Within, Same, Multiple, IsIdeal, LeftOrder}
use Rattle.theory_spaces.specs.Tuples.{constant, tuple_scale}
use Rattle.theory_tables.specs.Structure.{Structure, IsElement, IsOver, IsAssociative, tuple_ops}
use Rattle.theory_places.specs.Places.{Finite}
use Rattle.theory_places.specs.FractionPlaces.{IsIntegralAt}
use Rattle.theory_bases.specs.TupleLattices.{TupleLattice, SpanOrder}
use Rattle.theory_bases.specs.Bases.{BasisForm, IsPolynomialFraction, tuples_of}
use Rattle.spl_order.specs.Residues.{AreProductResidues}

module _ {E : Type 0} (o : Ops E) (L : FieldLaws o) (P : Pair E → Type 0) (A : Structure (Pair E)) where
  -- the combinations of the tuples with weights in P
  abbrev pub LatticeOf : List (List (Pair E)) → List (Pair E) → Type 0
  LatticeOf = TupleLattice (fraction_ops o L) P A.dim

  -- the tuples span an order over P, and the others a two-sided ideal of it that holds m times it
  pub record SpansIdealOver (m : List E) (tuples ideal : List (List (Pair E))) : Type 0 where
    pub is_order : SpanOrder (fraction_ops o L) A P tuples
    pub is_ideal : IsIdeal (tuple_ops (fraction_ops o L) A) (LatticeOf tuples) (LatticeOf ideal)
    pub over : Within (Multiple (tuple_ops (fraction_ops o L) A) (tuple_scale (fraction_ops o L) A.dim)
        (as_fraction o m) (LatticeOf tuples)) (LatticeOf ideal)

  -- the combinations of the tuples out are the elements that send the lattice of the others into itself from the left
  abbrev pub SpansLeftOrder : List (List (Pair E)) → List (List (Pair E)) → Type 0
  SpansLeftOrder ideal out =
      Same (λ x. IsElement (fraction_ops o L) A x × LeftOrder (tuple_ops (fraction_ops o L) A) (LatticeOf ideal) x)
      (LatticeOf out)

-- the matrix that has the constant at i, j and l in the row j·n + l and the column i: it sends to 0 the weights whose
-- combination of the first factors has products that are 0
abbrev pub product_matrix : {R : Type 0} → Ops R → ℕ → List R → List (List R)
product_matrix r n constants = table (n * n) (λ t. table n (λ i. constant r n constants i (t / n) (t % n)))

module _ {E : Type 0} (o : Ops E) (L : FieldLaws o) (m : List E) where
  -- the tuples out span the left order of the ideal's lattice, at m and over the polynomials, each where the tuples of
  -- the order and of the ideal are what they are called there
  pub record SpansLeftOrders (A : Structure (Pair E)) (order ideal out : List (List (Pair E))) : Type 0 where
    pub at_place : SpansIdealOver o L (IsIntegralAt o (Finite m)) A m order ideal
        → SpansLeftOrder o L (IsIntegralAt o (Finite m)) A ideal out
    pub over_polynomials : SpansIdealOver o L (IsPolynomialFraction o) A m order ideal
        → SpansLeftOrder o L (IsPolynomialFraction o) A ideal out

  -- the same in each algebra of dimension n in which the constants are the residues at m, by the operations r, of the
  -- coordinates of the products of the ideal's tuples
  abbrev pub GivesLeftOrders : Ops (List E) → ℕ → List (List E) → BasisForm E → BasisForm E → Type 0
  GivesLeftOrders r n constants ideal out =
      (A : Structure (Pair E)) → A.dim ≡ n → IsOver (fraction_ops o L) A → IsAssociative (fraction_ops o L) A
      → AreProductResidues o L m r A (tuples_of o L ideal) constants → (order : List (List (Pair E)))
      → SpansLeftOrders A order (tuples_of o L ideal) (tuples_of o L out)
