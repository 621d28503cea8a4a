-- The first fault of the conditions on a ramified place is the verdict, by its number.
use Rattle.std.specs.Prelude.{ℕ, List, [], ◌∷◌, None, Some}
use Rattle.std.proofs.Common.{ap, inl, inr}
use Rattle.theory_rings.specs.Ops.{Ops, FieldLaws}
use Rattle.theory_fractions.specs.Fraction.{Pair}
use Rattle.theory_tables.specs.Structure.{Structure}
use Rattle.spl_fraction.specs.Place.{place_of}
use Rattle.spl_fraction.specs.declared.place.Place.{Place}
use Rattle.spl_ramified.specs.Faults as faults
use Rattle.spl_ramified.specs.Faults.{IsFirstFault}
use Rattle.spl_ramified.specs.declared.fault.RamifiedFault.{RamifiedFault}
use Rattle.spl_check.specs.Faults.{number_of}
use Rattle.spl_check.specs.Verdict.{Condition, AllHold, FailsFirst, ramified_conditions}

-- the conditions, by the numbers of their faults
abbrev numbered : List faults.Condition → List Condition
numbered [] = []
numbered (c ∷ rest) = record { number = number_of c.fault; says = c.says } ∷ numbered rest

all : (list : List faults.Condition) → IsFirstFault list None → AllHold (numbered list)
all [] h = tt
all (c ∷ rest) h = (h.0, all rest h.1)

first : (list : List faults.Condition) (fault : RamifiedFault) → IsFirstFault list (Some fault)
    → FailsFirst (numbered list) (number_of fault)
first [] fault h = h
first (c ∷ rest) fault (inl h) = inl (h.0, ap number_of h.1)
first (c ∷ rest) fault (inr h) = inr (h.0, first rest fault h.1)

module _ (o : Ops ℕ) (L : FieldLaws o) (A : Structure (Pair ℕ)) (place : Place) (order radical : List (List (Pair ℕ)))
  where
    abbrev list : List faults.Condition
    list = faults.ramified_conditions o L A (place_of place) order radical

    pub no_fault : IsFirstFault list None → AllHold (ramified_conditions o L A place order radical)
    no_fault h = all list h

    pub first_number : (fault : RamifiedFault) → IsFirstFault list (Some fault)
        → FailsFirst (ramified_conditions o L A place order radical) (number_of fault)
    first_number fault h = first list fault h
