-- The conditions on the tuples of the radical at a finite place, by rows over the residue field.
use Rattle.std.specs.Prelude.{ℕ, Bool, List}
use Rattle.theory_rings.specs.Ring.{FieldOn}
use Rattle.theory_rings.specs.Ops.{Ops, FieldLaws}
use Rattle.theory_rings.specs.Elements.{Elem, elements}
use Rattle.theory_spaces.specs.Module.{AlgebraOn, module_of}
use Rattle.theory_spaces.specs.Linear.{Basis}
use Rattle.theory_spaces.specs.Sets.{Same, Test}
use Rattle.theory_spaces.specs.Tuples.{Tuple}
use Rattle.theory_spaces.proofs.Linear.LatticeTests.{lattice_test, lattice_test-in, in-lattice_test}
use Rattle.theory_spaces.proofs.Linear.Spaces.{coords_of}
use Rattle.theory_tables.specs.Matrix.{IsMatrix}
use Rattle.theory_tables.specs.Structure.{Structure, IsOver, IsAssociative}
use Rattle.theory_tables.proofs.Algebras.Bridge.{algebra}
use Rattle.theory_fractions.specs.Fraction.{Pair}
use Rattle.theory_fractions.specs.FractionOps.{fraction_ops}
use Rattle.theory_places.specs.Places.{Finite}
use Rattle.theory_places.specs.FractionPlaces.{IsIntegralAt, IsMonicIrreducible, fractions, uniformizer_at}
use Rattle.theory_places.specs.FractionPlaces.{FractionPlaceValuation}
use Rattle.theory_places.proofs.FractionPlaces.{fraction_places}
use Rattle.theory_left_orders.specs.LeftOrders.{BasisLattice}
use Rattle.theory_left_orders.specs.FractionResidues.{ResidueRingsBy}
use Rattle.theory_left_orders.proofs.TupleLeftOrders.{B}
use Rattle.theory_growth.specs.Settled.{residues, residue_algebra}
use Rattle.theory_ramified.specs.Conditions.{HoldsMultiple}
use Rattle.theory_ramified.specs.RowConditions.{IsOrderAtPlace, IsPreimageAtPlace, IsIdealOverMultiple, AreResiduesOf}
use Rattle.theory_ramified.specs.RowConditions.{ConditionsAreOnRows, ConditionsByRows, ResiduesAreRows}
use Rattle.theory_ramified.proofs.PreimageRows as by_rows

module _ {E : Type 0} (o : Ops E) (L : FieldLaws o) (M : FieldLaws (fraction_ops o L)) (m : List E)
    (s : IsMonicIrreducible o m) (N : FieldLaws (residues o L M m s))
    (R : ResidueRingsBy o L M m (residues o L M m s) N)
    (A : Structure (Pair E)) (over : IsOver (fraction_ops o L) A) (assoc : IsAssociative (fraction_ops o L) A)
    (os : List (List (Pair E))) (cs : List (List E)) (O : IsOrderAtPlace o L M m s N R A os cs)
    (js : List (List (Pair E))) (rows : List (List (List E))) (shape : IsMatrix (residues o L M m s) A.dim rows) where
  abbrev k : Ops (Pair E)
  k = fraction_ops o L

  abbrev r : Ops (List E)
  r = residues o L M m s

  abbrev K : FieldOn (Elem k)
  K = fractions o L M

  abbrev n : ℕ
  n = A.dim

  abbrev P : Pair E → Type 0
  P = IsIntegralAt o (Finite m)

  abbrev p : Elem k
  p = R.p

  abbrev q : Elem k
  q = K.inv p

  abbrev one : List (Pair E)
  one = O.order.one

  abbrev Alg : AlgebraOn K.ring (Tuple k n)
  Alg = algebra k M A over.of_elements assoc one O.order.is_one

  abbrev b : Basis (module_of Alg) n
  b = B k M P p q r N R.at_place A over assoc one O.order.is_one os O.order.basis

  abbrev BL : Tuple k n → Type 0
  BL = BasisLattice K (λ x. P x.0) p q (elements r N) R.at_place Alg n b

  -- a test for the order
  Z : FractionPlaceValuation o L M (Finite m)
  Z = fraction_places o L M (Finite m) s

  test : Tuple k n → Bool
  test = lattice_test K Z.valuation (module_of Alg) n (coords_of (module_of Alg) n b) n b.vec

  decides : Same (Test test) BL
  unfolding test
  decides = (
    λ x h. let w = lattice_test-in K Z.valuation (module_of Alg) n (coords_of (module_of Alg) n b) n b.vec x h in
        record { weights = w.weights; passes = λ i l. (Z.tells (w.weights i)).0 (w.passes i l); combines = w.combines },
    λ x h. in-lattice_test K Z.valuation (module_of Alg) n (coords_of (module_of Alg) n b) n b.vec x
        (record {
          weights = h.weights;
          passes = λ i l. (Z.tells (h.weights i)).1 (h.passes i l);
          combines = h.combines;
        }),
  )

  pub on_rows : IsIdealOverMultiple o L M m s N R A os js → IsPreimageAtPlace o L M m s N R A os rows js
      → ConditionsAreOnRows o L A m os js r (residue_algebra o L M m s N R A os cs) rows
  on_rows J pre = record {
    ideal = by_rows.spans_ideal k M P p q r N R.at_place A over assoc one O.order.is_one os O.order.basis O.order.order
        cs O.table rows shape js J.shape (uniformizer_at o (Finite m)) R.p_is J.inside J.absorbs.left J.absorbs.right
        J.over pre;
    power = (
      λ h. by_rows.vanishes k M P p q r N R.at_place A over assoc one O.order.is_one os O.order.basis O.order.order
          cs O.table rows shape js J.shape (uniformizer_at o (Finite m)) R.p_is J.inside J.absorbs.left
          J.absorbs.right J.over pre h.exponent h.falls,
      λ h. let f = by_rows.falls k M P p q r N R.at_place A over assoc one O.order.is_one os O.order.basis
          O.order.order cs O.table rows shape js J.shape (uniformizer_at o (Finite m)) R.p_is J.inside J.absorbs.left
          J.absorbs.right J.over pre h in
          record { exponent = f.0; falls = f.1 },
    );
    simple = (
      by_rows.maximal k M P p q r N R.at_place A over assoc one O.order.is_one os O.order.basis O.order.order
          cs O.table rows shape js J.shape (uniformizer_at o (Finite m)) R.p_is J.inside J.absorbs.left
          J.absorbs.right J.over pre test decides,
      by_rows.simple k M P p q r N R.at_place A over assoc one O.order.is_one os O.order.basis O.order.order
          cs O.table rows shape js J.shape (uniformizer_at o (Finite m)) R.p_is J.inside J.absorbs.left
          J.absorbs.right J.over pre test decides,
    );
    not_multiple = (
      λ h z. h (
        by_rows.all_multiples k M P p q r N R.at_place A over assoc one O.order.is_one os O.order.basis O.order.order
            cs O.table rows shape js J.shape (uniformizer_at o (Finite m)) R.p_is J.inside J.absorbs.left
            J.absorbs.right J.over pre z,
        J.over,
      ),
      λ h e. h (by_rows.are_zero k M P p q r N R.at_place A over assoc one O.order.is_one os O.order.basis
          O.order.order cs O.table rows shape js J.shape (uniformizer_at o (Finite m)) R.p_is J.inside J.absorbs.left
          J.absorbs.right J.over pre e.0),
    );
  }

  pub of_residues : HoldsMultiple o L A (Finite m) os js → AreResiduesOf o L M m s N R A os rows js
      → IsPreimageAtPlace o L M m s N R A os rows js
  of_residues h c =
      by_rows.rows_of_residues k M P p q r N R.at_place A over assoc one O.order.is_one os O.order.basis O.order.order
      cs O.table rows shape js c.combinations.shape c.coordinates c.each c.combinations
      (λ x g. h x.0 (by_rows.multiple_in k M P p q r N R.at_place A over assoc one O.order.is_one os O.order.basis
      O.order.order cs O.table (uniformizer_at o (Finite m)) R.p_is x g))

module _ {E : Type 0} (o : Ops E) (L : FieldLaws o) (M : FieldLaws (fraction_ops o L)) where
  pub conditions_by_rows : ConditionsByRows o L M
  conditions_by_rows m s N R A over assoc os cs O js J rows shape pre =
      on_rows o L M m s N R A over assoc os cs O js rows shape J pre

  pub residues_are_rows : ResiduesAreRows o L M
  residues_are_rows m s N R A over assoc os cs O js h rows shape c =
      of_residues o L M m s N R A over assoc os cs O js rows shape h c
