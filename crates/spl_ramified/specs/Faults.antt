-- The conditions on the tuples of an order and its radical at a ramified place, in the order in which they are checked,
-- and the first of them that fails. (Reiner, Maximal Orders, section 39.)
use Rattle.std.specs.Prelude.{◌≡◌, ◌⊎◌, List, [], ◌∷◌, Option, None, Some}
use Rattle.theory_rings.specs.Ops.{Ops, FieldLaws}
use Rattle.theory_tables.specs.Structure.{Structure, IsAssociative}
use Rattle.theory_tables.specs.Algebras.{HasIdentity}
use Rattle.theory_fractions.specs.Fraction.{Pair}
use Rattle.theory_fractions.specs.FractionOps.{fraction_ops}
use Rattle.theory_places.specs.Places.{PlaceOf}
use Rattle.theory_places.specs.FractionPlaces.{IsPlace}
use Rattle.theory_bases.specs.TupleLattices.{AreIndependentTuples}
use Rattle.theory_ramified.specs.Conditions.{HoldsIdentity, IsClosed, IsInside, AbsorbsProducts, HoldsMultiple}
use Rattle.theory_ramified.specs.Conditions.{SomePowerFalls, IsSimpleOver, IsLeftOrder, IsNotMultiple}
use Rattle.spl_ramified.specs.declared.fault.RamifiedFault.{RamifiedFault}
use Rattle.spl_ramified.specs.declared.fault.RamifiedFault.TheVariants as faults

-- a condition, and the fault by which its failure is told
pub record Condition : Type 1 where
  pub fault : RamifiedFault
  pub says : Type 0

module _ {E : Type 0} (o : Ops E) (L : FieldLaws o) (A : Structure (Pair E)) (place : PlaceOf (List E))
    (os js : List (List (Pair E))) where
  -- the conditions on the radical of an order
  abbrev pub left_order_conditions : List Condition
  left_order_conditions = record { fault = faults.OtherLeftOrder; says = IsLeftOrder o L A place os js }
      ∷ record { fault = faults.RadicalIsMultiple; says = IsNotMultiple o L A place os js } ∷ []

  -- those on an ideal of the order that holds its multiple by the place
  abbrev pub ideal_conditions : List Condition
  ideal_conditions = record { fault = faults.NotNilpotent; says = SomePowerFalls o L A place os js }
      ∷ record { fault = faults.QuotientNotSimple; says = IsSimpleOver o L A place os js } ∷ left_order_conditions

  -- those on the lattice of independent tuples
  abbrev pub lattice_conditions : List Condition
  lattice_conditions = record { fault = faults.RadicalOutside; says = IsInside o L A place os js }
      ∷ record { fault = faults.NoIdeal; says = AbsorbsProducts o L A place os js }
      ∷ record { fault = faults.RadicalWithoutMultiple; says = HoldsMultiple o L A place os js } ∷ ideal_conditions

  -- those on the tuples of the radical
  abbrev pub radical_conditions : List Condition
  radical_conditions = record {
    fault = faults.RadicalDependent;
    says = AreIndependentTuples (fraction_ops o L) A.dim js;
  } ∷ lattice_conditions

  -- and before them, those on the lattice of the order
  abbrev pub order_conditions : List Condition
  order_conditions = record { fault = faults.OrderWithoutIdentity; says = HoldsIdentity o L A place os }
      ∷ record { fault = faults.OrderNotClosed; says = IsClosed o L A place os } ∷ radical_conditions

  -- on its tuples
  abbrev pub tuple_conditions : List Condition
  tuple_conditions = record {
    fault = faults.OrderDependent;
    says = AreIndependentTuples (fraction_ops o L) A.dim os;
  } ∷ order_conditions

  -- on the algebra: its identity, and its products
  abbrev pub identity_conditions : List Condition
  identity_conditions = record {
    fault = faults.NoIdentity;
    says = HasIdentity (fraction_ops o L) A;
  } ∷ tuple_conditions

  abbrev pub algebra_conditions : List Condition
  algebra_conditions = record {
    fault = faults.NotAssociative;
    says = IsAssociative (fraction_ops o L) A;
  } ∷ identity_conditions

  -- and on the place: all conditions
  abbrev pub ramified_conditions : List Condition
  ramified_conditions = record { fault = faults.NoPlace; says = IsPlace o place } ∷ algebra_conditions

-- None where all conditions hold, and else the fault of the first that fails
abbrev pub IsFirstFault : List Condition → Option RamifiedFault → Type 0
IsFirstFault [] None = Unit {0}
IsFirstFault [] (Some fault) = ⊥
IsFirstFault (c ∷ rest) None = c.says × IsFirstFault rest None
IsFirstFault (c ∷ rest) (Some fault) =
    ((c.says → ⊥) × (c.fault ≡ fault)) ⊎ (c.says × IsFirstFault rest (Some fault))
