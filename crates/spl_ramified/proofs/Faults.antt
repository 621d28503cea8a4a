-- The first fault of a list of conditions is None exactly where all hold; that of the conditions on a ramified place is
-- None exactly where the place is ramified.
use Rattle.std.specs.Prelude.{◌≡◌, ◌↔◌, List, [], ◌∷◌, Option, None, Some}
use Rattle.std.proofs.Common.{refl, sym, ⊎_elim}
use Rattle.std.proofs.lemmas.Option.{none-some}
use Rattle.theory_rings.specs.Ops.{Ops, FieldLaws}
use Rattle.theory_tables.specs.Structure.{Structure, IsOver}
use Rattle.theory_fractions.specs.Fraction.{Pair}
use Rattle.theory_fractions.specs.FractionOps.{fraction_ops}
use Rattle.theory_places.specs.Places.{PlaceOf}
use Rattle.theory_places.specs.FractionPlaces.{IsPlace, RamifiedAtPlace}
use Rattle.theory_ramified.specs.Conditions.{MeetsConditions}
use Rattle.theory_ramified.proofs.Conditions.{conditions_are_ramified}
use Rattle.spl_ramified.specs.declared.fault.RamifiedFault.{RamifiedFault}
use Rattle.spl_ramified.specs.Faults.{Condition, IsFirstFault, ramified_conditions}

-- a fault excludes that all hold
not_all : (list : List Condition) (fault : RamifiedFault) → IsFirstFault list (Some fault) → IsFirstFault list None → ⊥
not_all [] fault h a = h
not_all (c ∷ rest) fault h a = ⊎_elim
    (λ (n : (c.says → ⊥) × (c.fault ≡ fault)). n.0 a.0)
    (λ (r : c.says × IsFirstFault rest (Some fault)). not_all rest fault r.1 a.1)
    h

module _ {E : Type 0} (o : Ops E) (L : FieldLaws o) (A : Structure (Pair E)) (place : PlaceOf (List E))
    (os js : List (List (Pair E))) where
  abbrev list : List Condition
  list = ramified_conditions o L A place os js

  all_to : MeetsConditions o L A place os js → IsFirstFault list None
  all_to h =
      let g = h.order in
      let r = h.radical in (
        g.is_place,
        (
          g.associative,
          (
            g.identity,
            (
              g.independent,
              (
                g.holds,
                (
                  g.closed,
                  (
                    h.independent,
                    (
                      r.inside,
                      (r.absorbs, (r.over, (r.power, (r.simple, (h.left_order, (h.not_multiple, tt)))))),
                    ),
                  ),
                ),
              ),
            ),
          ),
        ),
      )

  all_from : IsFirstFault list None → MeetsConditions o L A place os js
  all_from h =
      let b = h.1 in
      let c = b.1 in
      let d = c.1 in
      let e = d.1 in
      let f = e.1 in
      let g = f.1 in
      let i = g.1 in
      let j = i.1 in
      let k = j.1 in
      let l = k.1 in
      let m = l.1 in
      let n = m.1 in
      let p = n.1 in
      record {
        order = record {
          is_place = h.0;
          associative = b.0;
          identity = c.0;
          independent = d.0;
          holds = e.0;
          closed = f.0;
        };
        independent = g.0;
        radical = record { inside = i.0; absorbs = j.0; over = k.0; power = l.0; simple = m.0 };
        left_order = n.0;
        not_multiple = p.0;
      }

  -- of a ramified place all hold
  pub none_of_claim : (M : FieldLaws (fraction_ops o L)) → IsOver (fraction_ops o L) A
      → IsPlace o place × RamifiedAtPlace o L M A place os js → IsFirstFault list None
  none_of_claim M over c = all_to ((conditions_are_ramified o L M A over place os js).1 c)

  pub claim_by_faults : (M : FieldLaws (fraction_ops o L)) → IsOver (fraction_ops o L) A
      → (r : Option RamifiedFault) → IsFirstFault list r
      → (r ≡ None) ↔ (IsPlace o place × RamifiedAtPlace o L M A place os js)
  claim_by_faults M over None h = (
    λ _. (conditions_are_ramified o L M A over place os js).0 (all_from h),
    λ _. refl,
  )
  claim_by_faults M over (Some fault) h = (
    λ e. absurd (none-some fault (sym e)),
    λ c. absurd (not_all list fault h (none_of_claim M over c)),
  )
