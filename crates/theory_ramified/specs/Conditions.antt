-- What is asked of tuples that are to span an order and its radical at a ramified place, condition by condition. Λ is
-- the lattice of the tuples os at the place, J that of the tuples js, and π the uniformizer. (Reiner, Maximal Orders,
-- sections 8 and 39.)
use Rattle.std.specs.Prelude.{ℕ, List}
use Rattle.theory_rings.specs.Ops.{Ops, FieldLaws}
use Rattle.theory_spaces.specs.Sets.{Within, Same, Multiple, Power, LeftOrder, SimpleQuotient}
use Rattle.theory_spaces.specs.Tuples.{tuple_scale}
use Rattle.theory_tables.specs.Structure.{Structure, IsElement, IsAssociative, tuple_ops, product_of}
use Rattle.theory_tables.specs.Algebras.{IsIdentity, HasIdentity}
use Rattle.theory_fractions.specs.Fraction.{Pair}
use Rattle.theory_fractions.specs.FractionOps.{fraction_ops}
use Rattle.theory_places.specs.Places.{PlaceOf}
use Rattle.theory_places.specs.FractionPlaces.{IsPlace, IsIntegralAt, uniformizer_at}
use Rattle.theory_bases.specs.TupleLattices.{TupleLattice, AreIndependentTuples}

module _ {E : Type 0} (o : Ops E) (L : FieldLaws o) (A : Structure (Pair E)) (place : PlaceOf (List E)) where
  -- the combinations of the tuples with weights that are integral at the place
  abbrev pub LatticeAt : List (List (Pair E)) → List (Pair E) → Type 0
  LatticeAt = TupleLattice (fraction_ops o L) (IsIntegralAt o place) A.dim

  -- π times these
  abbrev pub MultipleAt : List (List (Pair E)) → List (Pair E) → Type 0
  MultipleAt rows = Multiple (tuple_ops (fraction_ops o L) A) (tuple_scale (fraction_ops o L) A.dim)
      (uniformizer_at o place) (LatticeAt rows)

  module _ (os : List (List (Pair E))) where
    -- Λ holds the identity
    abbrev pub HoldsIdentity : Type 0
    HoldsIdentity = (e : List (Pair E)) → IsIdentity (fraction_ops o L) A e → LatticeAt os e

    -- Λ is closed under products
    abbrev pub IsClosed : Type 0
    IsClosed = (x y : List (Pair E)) → LatticeAt os x → LatticeAt os y
        → LatticeAt os (product_of (fraction_ops o L) A x y)

    module _ (js : List (List (Pair E))) where
      -- J is inside Λ
      abbrev pub IsInside : Type 0
      IsInside = Within (LatticeAt js) (LatticeAt os)

      -- Λ·J and J·Λ are inside J
      pub record AbsorbsProducts : Type 0 where
        pub left : (a x : List (Pair E)) → LatticeAt os a → LatticeAt js x
            → LatticeAt js (product_of (fraction_ops o L) A a x)
        pub right : (a x : List (Pair E)) → LatticeAt os a → LatticeAt js x
            → LatticeAt js (product_of (fraction_ops o L) A x a)

      -- π·Λ is inside J
      abbrev pub HoldsMultiple : Type 0
      HoldsMultiple = Within (MultipleAt os) (LatticeAt js)

      -- some power of J is inside π·Λ
      pub record SomePowerFalls : Type 0 where
        pub exponent : ℕ
        pub falls : Within (Power (tuple_ops (fraction_ops o L) A) (LatticeAt js) exponent) (MultipleAt os)

      -- J is not Λ, and no two-sided ideal of Λ lies strictly between J and Λ
      abbrev pub IsSimpleOver : Type 0
      IsSimpleOver = SimpleQuotient (tuple_ops (fraction_ops o L) A) (LatticeAt os) (LatticeAt js)

      -- the left order of J is Λ
      abbrev pub IsLeftOrder : Type 0
      IsLeftOrder = Same (λ a. IsElement (fraction_ops o L) A a
          × LeftOrder (tuple_ops (fraction_ops o L) A) (LatticeAt js) a) (LatticeAt os)

      -- J is not π·Λ
      abbrev pub IsNotMultiple : Type 0
      IsNotMultiple = Same (LatticeAt js) (MultipleAt os) → ⊥

  -- an associative algebra with identity, in which the tuples os span an order at the place
  pub record GivesOrder (os : List (List (Pair E))) : Type 0 where
    pub is_place : IsPlace o place
    pub associative : IsAssociative (fraction_ops o L) A
    pub identity : HasIdentity (fraction_ops o L) A
    pub independent : AreIndependentTuples (fraction_ops o L) A.dim os
    pub holds : HoldsIdentity os
    pub closed : IsClosed os

  -- J is an ideal of Λ between π·Λ and Λ, some power of it is inside π·Λ, and the quotient is simple
  pub record GivesSimpleRadical (os js : List (List (Pair E))) : Type 0 where
    pub inside : IsInside os js
    pub absorbs : AbsorbsProducts os js
    pub over : HoldsMultiple os js
    pub power : SomePowerFalls os js
    pub simple : IsSimpleOver os js

  -- all conditions
  pub record MeetsConditions (os js : List (List (Pair E))) : Type 0 where
    pub order : GivesOrder os
    pub independent : AreIndependentTuples (fraction_ops o L) A.dim js
    pub radical : GivesSimpleRadical os js
    pub left_order : IsLeftOrder os js
    pub not_multiple : IsNotMultiple os js
