-- What the growth of first orders at all places says of a table's algebra, where the answer holds tuples. (Reiner,
-- Maximal Orders, sections 8, 25 and 39.)
use Rattle.std.specs.Prelude.{◌≡◌, ℕ, List}
use Rattle.theory_fractions.specs.Fraction.{Pair}
use Rattle.theory_tables.specs.Structure.{Structure}
use Rattle.theory_bases.specs.Bases.{BasisForm}
use Rattle.spl_field.specs.declared.small.SmallField.{SmallField}
use Rattle.spl_fraction.specs.declared.place.Place.{Place}
use Rattle.spl_fraction.specs.declared.place.Place.TheVariants.{Infinity}
use Rattle.spl_evidence.specs.Claim.{RamifiedClaim}
use Rattle.spl_local.specs.Growth.{small_tuples}
use Rattle.spl_local.specs.Everywhere.{IsFirstRamified, IsUnimodularEverywhere, HoldsStarts, HoldsStartsAt}
use Rattle.spl_engine.specs.declared.everywhere.Everywhere.{Everywhere}
use Rattle.spl_engine.specs.declared.everywhere.Everywhere.TheVariants.{Ramified, Unimodular}

module _ (f : SmallField) (A : Structure (Pair ℕ)) where
  -- the tuples are those of a basis whose lattice at the place holds that of each first order
  pub record HoldStarts (one : List (Pair ℕ)) (place : Place) (order : List (List (Pair ℕ))) : Type 0 where
    pub basis : BasisForm ℕ
    pub tuples : small_tuples f basis ≡ order
    pub holds : HoldsStartsAt f A one place basis

  -- the claim of the first ramified place, or orders that are their own duals at all places
  abbrev pub IsEverywhere : Everywhere → Type 0
  IsEverywhere (Ramified place order radical) = RamifiedClaim f A place order radical × IsFirstRamified f A place
  IsEverywhere (Unimodular finite infinite) = IsUnimodularEverywhere f A finite infinite

  -- the orders hold the first orders of the algebra with this identity
  abbrev pub HoldFirstOrders : List (Pair ℕ) → Everywhere → Type 0
  HoldFirstOrders one (Ramified place order radical) = HoldStarts one place order
  HoldFirstOrders one (Unimodular finite infinite) =
      HoldsStarts f A one finite × HoldsStartsAt f A one Infinity infinite
