-- The conditions on the tuples of the radical at a finite place, by rows over the residue field: of an ideal J of Λ
-- that holds π·Λ, by the ideal J/π·Λ of the residue algebra Λ/π·Λ. (Reiner, Maximal Orders, sections 6 and 39.)
use Rattle.std.specs.Prelude.{◌↔◌, List}
use Rattle.theory_rings.specs.Ops.{Ops, FieldLaws}
use Rattle.theory_spaces.specs.Sets.{Same, IsMaximalIdeal}
use Rattle.theory_spaces.specs.Tuples.{IsTuple}
use Rattle.theory_tables.specs.Matrix.{IsMatrix}
use Rattle.theory_tables.specs.Subspace.{Combinations}
use Rattle.theory_tables.specs.Structure.{Structure, IsOver, IsAssociative, tuple_ops}
use Rattle.theory_tables.specs.Algebras.{SpansIdeal, AreZero}
use Rattle.theory_tables.specs.Traces.{PowerVanishes}
use Rattle.theory_fractions.specs.Fraction.{Pair}
use Rattle.theory_fractions.specs.FractionOps.{fraction_ops}
use Rattle.theory_places.specs.Places.{Finite}
use Rattle.theory_places.specs.FractionPlaces.{IsIntegralAt, IsMonicIrreducible, fractions}
use Rattle.theory_bases.specs.TupleLattices.{SpanOrder}
use Rattle.theory_left_orders.specs.FractionResidues.{ResidueRingsBy}
use Rattle.theory_left_orders.specs.TupleResidues.{AreResidueRows}
use Rattle.theory_left_orders.specs.TupleIdeals.{IsResidueTable, Preimage, AreCombinations}
use Rattle.theory_growth.specs.Settled.{residues, residue_algebra}
use Rattle.theory_ramified.specs.Conditions.{LatticeAt, IsInside, AbsorbsProducts, HoldsMultiple, SomePowerFalls}
use Rattle.theory_ramified.specs.Conditions.{IsSimpleOver, IsNotMultiple}

module _ {E : Type 0} (o : Ops E) (L : FieldLaws o) (M : FieldLaws (fraction_ops o L)) (m : List E)
    (s : IsMonicIrreducible o m) (N : FieldLaws (residues o L M m s))
    (R : ResidueRingsBy o L M m (residues o L M m s) N)
    (A : Structure (Pair E)) (os : List (List (Pair E))) where
  -- the tuples os span an order at the place, and the constants are the residues of its own
  pub record IsOrderAtPlace (constants : List (List E)) : Type 0 where
    pub order : SpanOrder (fraction_ops o L) A (IsIntegralAt o (Finite m)) os
    pub table : IsResidueTable (fraction_ops o L) M (IsIntegralAt o (Finite m)) R.p
        (let K = fractions o L M in K.inv R.p) (residues o L M m s) N R.at_place A os constants

  -- what the rows span comes from the lattice of js
  abbrev pub IsPreimageAtPlace : List (List (List E)) → List (List (Pair E)) → Type 0
  IsPreimageAtPlace rows js = Same (Preimage (fraction_ops o L) M (IsIntegralAt o (Finite m)) R.p
      (let K = fractions o L M in K.inv R.p) (residues o L M m s) N R.at_place A os rows)
      (LatticeAt o L A (Finite m) js)

  -- the lattice of js is an ideal of the order that holds its multiple
  pub record IsIdealOverMultiple (js : List (List (Pair E))) : Type 0 where
    pub shape : IsMatrix (fraction_ops o L) A.dim js
    pub inside : IsInside o L A (Finite m) os js
    pub absorbs : AbsorbsProducts o L A (Finite m) os js
    pub over : HoldsMultiple o L A (Finite m) os js

  -- the rows are the residues of the coordinates of js by os
  pub record AreResiduesOf (rows : List (List (List E))) (js : List (List (Pair E))) : Type 0 where
    pub coordinates : List (List (Pair E))
    pub combinations : AreCombinations (fraction_ops o L) M (IsIntegralAt o (Finite m)) R.p
        (let K = fractions o L M in K.inv R.p) (residues o L M m s) N R.at_place A os coordinates js
    pub each : AreResidueRows (fraction_ops o L) M (IsIntegralAt o (Finite m)) R.p
        (let K = fractions o L M in K.inv R.p) (residues o L M m s) N R.at_place A.dim coordinates rows

-- the rows span an ideal of the algebra C over r, as which J becomes in the residue algebra of Λ, and the conditions on
-- js say this of it: it is nilpotent, maximal, and not 0
module _ {E : Type 0} (o : Ops E) (L : FieldLaws o) (A : Structure (Pair E)) (m : List E)
    (os js : List (List (Pair E))) (r : Ops (List E)) (C : Structure (List E)) where
  pub record ConditionsAreOnRows (rows : List (List (List E))) : Type 0 where
    pub ideal : SpansIdeal r C rows
    pub power : SomePowerFalls o L A (Finite m) os js ↔ PowerVanishes r C rows
    pub simple : IsSimpleOver o L A (Finite m) os js
        ↔ IsMaximalIdeal (tuple_ops r C) (IsTuple r C.dim) (Combinations r C.dim rows)
    pub not_multiple : IsNotMultiple o L A (Finite m) os js ↔ (AreZero r C rows → ⊥)

module _ {E : Type 0} (o : Ops E) (L : FieldLaws o) (M : FieldLaws (fraction_ops o L)) where
  -- of an order at a finite place and an ideal of it over its multiple, by rows that span what the ideal becomes
  abbrev pub ConditionsByRows : Type 0
  ConditionsByRows = (m : List E) (s : IsMonicIrreducible o m) (N : FieldLaws (residues o L M m s))
      (R : ResidueRingsBy o L M m (residues o L M m s) N)
      (A : Structure (Pair E)) → IsOver (fraction_ops o L) A → IsAssociative (fraction_ops o L) A
      → (os : List (List (Pair E))) (constants : List (List E)) → IsOrderAtPlace o L M m s N R A os constants
      → (js : List (List (Pair E))) → IsIdealOverMultiple o L M m s N R A os js
      → (rows : List (List (List E))) → IsMatrix (residues o L M m s) A.dim rows
      → IsPreimageAtPlace o L M m s N R A os rows js
      → ConditionsAreOnRows o L A m os js (residues o L M m s) (residue_algebra o L M m s N R A os constants) rows

  -- the residues of the coordinates of js are such rows
  abbrev pub ResiduesAreRows : Type 0
  ResiduesAreRows = (m : List E) (s : IsMonicIrreducible o m) (N : FieldLaws (residues o L M m s))
      (R : ResidueRingsBy o L M m (residues o L M m s) N)
      (A : Structure (Pair E)) → IsOver (fraction_ops o L) A → IsAssociative (fraction_ops o L) A
      → (os : List (List (Pair E))) (constants : List (List E)) → IsOrderAtPlace o L M m s N R A os constants
      → (js : List (List (Pair E))) → HoldsMultiple o L A (Finite m) os js
      → (rows : List (List (List E))) → IsMatrix (residues o L M m s) A.dim rows
      → AreResiduesOf o L M m s N R A os rows js
      → IsPreimageAtPlace o L M m s N R A os rows js
