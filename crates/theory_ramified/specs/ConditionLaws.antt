-- What the conditions on tuples at a ramified place are together.
use Rattle.std.specs.Prelude.{◌↔◌, List}
use Rattle.theory_rings.specs.Ops.{Ops, FieldLaws}
use Rattle.theory_spaces.specs.Sets.{Radical}
use Rattle.theory_spaces.specs.Tuples.{tuple_scale}
use Rattle.theory_tables.specs.Structure.{Structure, IsOver, tuple_ops}
use Rattle.theory_fractions.specs.Fraction.{Pair}
use Rattle.theory_fractions.specs.FractionOps.{fraction_ops}
use Rattle.theory_places.specs.Places.{PlaceOf}
use Rattle.theory_places.specs.FractionPlaces.{IsPlace, uniformizer_at, RamifiedAtPlace}
use Rattle.theory_bases.specs.TupleLattices.{AreIndependentTuples}
use Rattle.theory_ramified.specs.Conditions.{LatticeAt, IsSimpleOver, GivesOrder, GivesSimpleRadical, MeetsConditions}

module _ {E : Type 0} (o : Ops E) (L : FieldLaws o) where
  -- J is the radical of Λ, and the quotient by it is simple
  pub record IsSimpleRadical (A : Structure (Pair E)) (place : PlaceOf (List E)) (os js : List (List (Pair E))) : Type 0
    where
      pub radical : Radical (tuple_ops (fraction_ops o L) A) (tuple_scale (fraction_ops o L) A.dim)
          (uniformizer_at o place) (LatticeAt o L A place os) (LatticeAt o L A place js)
      pub simple : IsSimpleOver o L A place os js

  -- the conditions on J up to the simple quotient say this
  abbrev pub ConditionsOnRadical : Type 0
  ConditionsOnRadical = (A : Structure (Pair E)) → IsOver (fraction_ops o L) A → (place : PlaceOf (List E))
      (os js : List (List (Pair E))) → GivesOrder o L A place os
      → AreIndependentTuples (fraction_ops o L) A.dim js
      → GivesSimpleRadical o L A place os js ↔ IsSimpleRadical A place os js

  -- and all conditions say that the place is a ramified one, with the order of os and the radical of js
  abbrev pub ConditionsAreRamified : FieldLaws (fraction_ops o L) → Type 0
  ConditionsAreRamified M = (A : Structure (Pair E)) → IsOver (fraction_ops o L) A → (place : PlaceOf (List E))
      (os js : List (List (Pair E)))
      → MeetsConditions o L A place os js ↔ (IsPlace o place × RamifiedAtPlace o L M A place os js)
