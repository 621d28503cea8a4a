-- Larger orders over the polynomials that a monic irreducible polynomial m carries back: they are the same at all other
-- finite places, and there are only finitely many of them one after the other. (Reiner, Maximal Orders, sections 4, 10
-- and 39.)
--
-- A loop that grows an order at m keeps: the first order and that of the moment are the same elsewhere, and GrowthBound
-- of the order of the moment by a number that is left. Each growth takes one off (BoundFalls), so the number left is
-- the loop's measure, and once it is 0 nothing can grow: `for _ in 0..=b` never comes to its end, where b is the
-- dimension times the degree of a polynomial that carries the dual into the first order (BoundByDegree).
use Rattle.std.specs.Prelude.{◌≡◌, ◌≢◌, ◌<◌, ◌≤◌, ◌-◌, ◌*◌, ℕ, suc, List, [], get_or, length}
use Rattle.std.specs.List.{All}
use Rattle.theory_rings.specs.Ops.{Ops, FieldLaws}
use Rattle.theory_rings.specs.Polynomial.{degree}
use Rattle.theory_spaces.specs.Sets.{Within, Same, Multiple}
use Rattle.theory_spaces.specs.Tuples.{IsTuple, tuple_scale}
use Rattle.theory_spaces.specs.Lattice.{DualOf}
use Rattle.theory_tables.specs.Matrix.{IsMatrix}
use Rattle.theory_tables.specs.Algebras.{IsIdentity}
use Rattle.theory_tables.specs.Structure.{Structure, IsOver, IsAssociative, tuple_ops}
use Rattle.theory_tables.specs.Traces.{IsNondegenerate}
use Rattle.theory_fractions.specs.PolynomialLists.{IsPolynomialList, IsProduct}
use Rattle.theory_fractions.specs.Fraction.{Pair}
use Rattle.theory_fractions.specs.FractionOps.{fraction_ops}
use Rattle.theory_fractions.specs.CommonDenominator.{as_fraction, Clears}
use Rattle.theory_places.specs.Places.{Finite}
use Rattle.theory_places.specs.FractionPlaces.{IsIntegralAt, IsMonicIrreducible, fractions}
use Rattle.theory_bases.specs.TupleLattices.{TupleLattice, SameTupleLattice, AreIndependentTuples, SpanOrder}
use Rattle.theory_bases.specs.TupleLattices.{AreTraceDual, IsTraceDualOfItself, trace_of_product}
use Rattle.theory_bases.specs.Bases.{IsPolynomialFraction}
use Rattle.theory_left_orders.specs.FractionResidues.{ResidueRingsBy}
use Rattle.theory_left_orders.specs.TupleResidues.{LeftOrderOf}
use Rattle.theory_left_orders.specs.TupleIdeals.{IsPreimage}
use Rattle.theory_growth.specs.Settled.{residues, IsOrderModulo}

module _ {E : Type 0} (o : Ops E) (L : FieldLaws o) (A : Structure (Pair E)) where
  -- the combinations of the tuples with polynomials as weights
  abbrev pub PolynomialLattice : List (List (Pair E)) → List (Pair E) → Type 0
  PolynomialLattice = TupleLattice (fraction_ops o L) (IsPolynomialFraction o) A.dim

  -- b spans an order that holds that of a, and m carries it into that
  pub record IsStep (m : List E) (a b : List (List (Pair E))) : Type 0 where
    pub order : SpanOrder (fraction_ops o L) A (IsPolynomialFraction o) b
    pub within : Within (PolynomialLattice a) (PolynomialLattice b)
    pub over : Within (Multiple (tuple_ops (fraction_ops o L) A) (tuple_scale (fraction_ops o L) A.dim)
        (as_fraction o m) (PolynomialLattice b)) (PolynomialLattice a)

  -- and the two are not the same
  pub record IsGrowth (m : List E) (a b : List (List (Pair E))) : Type 0 where
    pub step : IsStep m a b
    pub proper : Within (PolynomialLattice b) (PolynomialLattice a) → ⊥

  -- a and b have the same lattice at each other monic irreducible polynomial
  abbrev pub AreSameElsewhere : List E → List (List (Pair E)) → List (List (Pair E)) → Type 0
  AreSameElsewhere m a b = (l : List E) → IsMonicIrreducible o l → l ≢ m
      → SameTupleLattice (fraction_ops o L) (IsIntegralAt o (Finite l)) A.dim a b

  -- so it is after a step, and after several
  abbrev pub StepsKeepOtherPlaces : Type 0
  StepsKeepOtherPlaces = IsOver (fraction_ops o L) A → IsAssociative (fraction_ops o L) A → (m : List E)
      → IsMonicIrreducible o m → (k : ℕ) (t : ℕ → List (List (Pair E)))
      → SpanOrder (fraction_ops o L) A (IsPolynomialFraction o) (t 0)
      → ((i : ℕ) → i < k → IsStep m (t i) (t (suc i))) → AreSameElsewhere m (t 0) (t k)

  -- tuples with the same lattice at a place are their own dual for the trace there together
  abbrev pub OwnDualIsKept : Type 0
  OwnDualIsKept = (l : List E) (a b : List (List (Pair E)))
      → SameTupleLattice (fraction_ops o L) (IsIntegralAt o (Finite l)) A.dim a b
      → IsTraceDualOfItself (fraction_ops o L) A (IsIntegralAt o (Finite l)) a
      → IsTraceDualOfItself (fraction_ops o L) A (IsIntegralAt o (Finite l)) b

  -- orders that grow one after the other from that of the tuples are at most b
  abbrev pub GrowthBound : List E → List (List (Pair E)) → ℕ → Type 0
  GrowthBound m tuples b = (k : ℕ) (t : ℕ → List (List (Pair E))) → t 0 ≡ tuples
      → ((i : ℕ) → i < k → IsGrowth m (t i) (t (suc i))) → k ≤ b

  -- such a bound is at least 1 where the order grows, and one less bounds the larger order
  pub record BoundFalls (m : List E) (a b : List (List (Pair E))) (bound : ℕ) : Type 0 where
    pub positive : 1 ≤ bound
    pub less : GrowthBound m b (bound - 1)

  abbrev pub GrowthsFall : Type 0
  GrowthsFall = (m : List E) (a b : List (List (Pair E))) (bound : ℕ) → GrowthBound m a bound → IsGrowth m a b
      → BoundFalls m a b bound

  -- c carries into the lattice what it pairs with into the polynomials by the trace: the dual of the lattice
  abbrev pub CarriesDual : List E → List (List (Pair E)) → Type 0
  CarriesDual c tuples = (x : List (Pair E)) → IsTuple (fraction_ops o L) A.dim x
      → DualOf (trace_of_product (fraction_ops o L) A) (IsPolynomialFraction o) (PolynomialLattice tuples) x
      → PolynomialLattice tuples (tuple_scale (fraction_ops o L) A.dim (as_fraction o c) x)

  -- so does a polynomial that carries the dual basis into the lattice
  abbrev pub DualBasisIsCarried : Type 0
  DualBasisIsCarried = IsOver (fraction_ops o L) A → IsAssociative (fraction_ops o L) A
      → (one : List (Pair E)) → IsIdentity (fraction_ops o L) A one
      → (tuples duals : List (List (Pair E))) → AreIndependentTuples (fraction_ops o L) A.dim tuples
      → IsMatrix (fraction_ops o L) A.dim duals → AreTraceDual (fraction_ops o L) A tuples duals
      → length duals ≡ A.dim → (c : List E) → IsPolynomialList o c
      → ((i : ℕ) → i < A.dim
      → PolynomialLattice tuples (tuple_scale (fraction_ops o L) A.dim (as_fraction o c) (get_or duals i [])))
      → CarriesDual c tuples

  -- such a one is the square of the product of a polynomial that makes the dual basis polynomials, and one that makes the
  -- constants of the algebra polynomials
  abbrev pub DualIsCarriedBySquare : Type 0
  DualIsCarriedBySquare = IsOver (fraction_ops o L) A → IsAssociative (fraction_ops o L) A
      → (one : List (Pair E)) → IsIdentity (fraction_ops o L) A one
      → (tuples duals : List (List (Pair E))) → AreIndependentTuples (fraction_ops o L) A.dim tuples
      → IsMatrix (fraction_ops o L) A.dim duals → AreTraceDual (fraction_ops o L) A tuples duals
      → length duals ≡ A.dim → (d e s c : List E)
      → IsPolynomialList o d → All (All (Clears o d)) duals → IsPolynomialList o e
      → ((i : ℕ) → i < length A.constants → Clears o e (get_or A.constants i ([], [])))
      → IsPolynomialList o s → IsProduct o d e s → IsPolynomialList o c → IsProduct o s s c → CarriesDual c tuples

  -- the dimension times the degree of such a polynomial is a bound, for each m
  abbrev pub BoundByDegree : Type 0
  BoundByDegree = IsOver (fraction_ops o L) A → IsAssociative (fraction_ops o L) A
      → (m : List E) → IsMonicIrreducible o m → (tuples : List (List (Pair E)))
      → SpanOrder (fraction_ops o L) A (IsPolynomialFraction o) tuples
      → (c : List E) → IsPolynomialList o c → c ≢ [] → CarriesDual c tuples → GrowthBound m tuples (A.dim * degree c)

  -- where the trace form is nondegenerate, each order has such a bound
  abbrev pub BoundsExist : Type 0
  BoundsExist = IsOver (fraction_ops o L) A → IsAssociative (fraction_ops o L) A
      → IsNondegenerate (fraction_ops o L) A → (m : List E) → IsMonicIrreducible o m → (tuples : List (List (Pair E)))
      → SpanOrder (fraction_ops o L) A (IsPolynomialFraction o) tuples → (b : ℕ) × GrowthBound m tuples b

module _ {E : Type 0} (o : Ops E) (L : FieldLaws o) (M : FieldLaws (fraction_ops o L)) where
  -- the left order of the preimage of an ideal of the residue algebra is a step
  abbrev pub LeftOrdersAreSteps : Type 0
  LeftOrdersAreSteps = (m : List E) (s : IsMonicIrreducible o m) (N : FieldLaws (residues o L M m s))
      (R : ResidueRingsBy o L M m (residues o L M m s) N)
      (A : Structure (Pair E)) → IsOver (fraction_ops o L) A → IsAssociative (fraction_ops o L) A
      → (tuples : List (List (Pair E))) (constants : List (List E)) → IsOrderModulo o L M m s N R A tuples constants
      → (rows : List (List (List E))) (ideal out : List (List (Pair E)))
      → AreIndependentTuples (fraction_ops o L) A.dim ideal
      → IsPreimage (fraction_ops o L) M (IsPolynomialFraction o) R.p (let K = fractions o L M in K.inv R.p)
      (residues o L M m s) N R.polynomials A tuples constants rows ideal
      → AreIndependentTuples (fraction_ops o L) A.dim out
      → Same (LeftOrderOf (fraction_ops o L) M (IsPolynomialFraction o) R.p (let K = fractions o L M in K.inv R.p)
      (residues o L M m s) N R.polynomials A ideal) (PolynomialLattice o L A out)
      → IsStep o L A m tuples out
