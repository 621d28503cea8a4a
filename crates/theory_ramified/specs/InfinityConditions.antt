-- The conditions at infinity, as those of the images at the place x, where 1/x is put for x. (Reiner, Maximal Orders,
-- section 39; Stichtenoth, Algebraic Function Fields and Codes, section 1.2.)
use Rattle.std.specs.Prelude.{◌↔◌, List}
use Rattle.theory_rings.specs.Ops.{Ops, FieldLaws}
use Rattle.theory_tables.specs.Matrix.{IsMatrix}
use Rattle.theory_tables.specs.Structure.{Structure, IsOver, IsAssociative}
use Rattle.theory_tables.specs.Algebras.{HasIdentity}
use Rattle.theory_fractions.specs.Fraction.{Pair}
use Rattle.theory_fractions.specs.FractionOps.{fraction_ops}
use Rattle.theory_places.specs.Places.{Infinite}
use Rattle.theory_bases.specs.TupleLattices.{AreIndependentTuples}
use Rattle.theory_swaps.specs.Involutions.{images, image_structure}
use Rattle.theory_swaps.specs.FractionSwaps.{place_x, IsFractionSwap}
use Rattle.theory_ramified.specs.Conditions.{HoldsIdentity, IsClosed, IsInside, AbsorbsProducts, HoldsMultiple}
use Rattle.theory_ramified.specs.Conditions.{SomePowerFalls, IsSimpleOver, IsLeftOrder, IsNotMultiple}

module _ {E : Type 0} (o : Ops E) (L : FieldLaws o) where
  module _ (s : Pair E → Pair E) (A : Structure (Pair E)) (os js : List (List (Pair E))) where
    abbrev B : Structure (Pair E)
    B = image_structure s A

    -- each condition holds at infinity exactly where it holds of the images at x
    pub record ConditionsAreSwapped : Type 0 where
      pub associative : IsAssociative (fraction_ops o L) A ↔ IsAssociative (fraction_ops o L) B
      pub identity : HasIdentity (fraction_ops o L) A ↔ HasIdentity (fraction_ops o L) B
      pub order_independent : AreIndependentTuples (fraction_ops o L) A.dim os
          ↔ AreIndependentTuples (fraction_ops o L) A.dim (images s os)
      pub holds : HoldsIdentity o L A Infinite os ↔ HoldsIdentity o L B (place_x o) (images s os)
      pub closed : IsClosed o L A Infinite os ↔ IsClosed o L B (place_x o) (images s os)
      pub radical_independent : AreIndependentTuples (fraction_ops o L) A.dim js
          ↔ AreIndependentTuples (fraction_ops o L) A.dim (images s js)
      pub inside : IsInside o L A Infinite os js ↔ IsInside o L B (place_x o) (images s os) (images s js)
      pub absorbs : AbsorbsProducts o L A Infinite os js
          ↔ AbsorbsProducts o L B (place_x o) (images s os) (images s js)
      pub over : HoldsMultiple o L A Infinite os js ↔ HoldsMultiple o L B (place_x o) (images s os) (images s js)
      pub power : SomePowerFalls o L A Infinite os js ↔ SomePowerFalls o L B (place_x o) (images s os) (images s js)
      pub simple : IsSimpleOver o L A Infinite os js ↔ IsSimpleOver o L B (place_x o) (images s os) (images s js)
      pub left_order : IsLeftOrder o L A Infinite os js ↔ IsLeftOrder o L B (place_x o) (images s os) (images s js)
      pub not_multiple : IsNotMultiple o L A Infinite os js
          ↔ IsNotMultiple o L B (place_x o) (images s os) (images s js)

  abbrev pub ConditionsAtInfinityAtX : Type 0
  ConditionsAtInfinityAtX = (s : Pair E → Pair E) → IsFractionSwap o L s → (A : Structure (Pair E))
      → IsOver (fraction_ops o L) A → (os js : List (List (Pair E))) → IsMatrix (fraction_ops o L) A.dim os
      → IsMatrix (fraction_ops o L) A.dim js → ConditionsAreSwapped s A os js
