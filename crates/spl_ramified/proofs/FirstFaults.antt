-- The first fault by that of the conditions after one that holds, and by that of conditions which say the same; at
-- infinity it is that of the images at the place x.
use Rattle.std.specs.Prelude.{◌≡◌, ◌↔◌, List, [], ◌∷◌, Option, None, Some}
use Rattle.std.proofs.Common.{refl, sym, ◌∙◌, inl, inr, ⊎_elim}
use Rattle.theory_rings.specs.Ops.{Ops, FieldLaws}
use Rattle.theory_tables.specs.Matrix.{IsMatrix}
use Rattle.theory_tables.specs.Structure.{Structure, IsOver}
use Rattle.theory_fractions.specs.Fraction.{Pair}
use Rattle.theory_fractions.specs.FractionOps.{fraction_ops}
use Rattle.theory_places.specs.Places.{Infinite}
use Rattle.theory_swaps.specs.Involutions.{images, image_structure}
use Rattle.theory_swaps.specs.FractionSwaps.{place_x, IsFractionSwap}
use Rattle.theory_ramified.proofs.InfinityConditions.{conditions_at_infinity_at_x}
use Rattle.spl_ramified.specs.declared.fault.RamifiedFault.{RamifiedFault}
use Rattle.spl_ramified.specs.Faults.{Condition, IsFirstFault, tuple_conditions}

-- where a condition holds, the first fault is that of the rest
pub first_holds : (fault : RamifiedFault) (says : Type 0) (rest : List Condition) (r : Option RamifiedFault) → says
    → IsFirstFault rest r → IsFirstFault (record { fault = fault; says = says } ∷ rest) r
first_holds fault says rest None h t = (h, t)
first_holds fault says rest (Some x) h t = inr (h, t)

-- the same faults, for conditions that say the same
abbrev AreSame : List Condition → List Condition → Type 0
AreSame [] [] = Unit {0}
AreSame [] (d ∷ ds) = ⊥
AreSame (c ∷ cs) [] = ⊥
AreSame (c ∷ cs) (d ∷ ds) = ((c.says ↔ d.says) × (c.fault ≡ d.fault)) × AreSame cs ds

-- they have the same first fault
same_faults : (a b : List Condition) → AreSame a b → (r : Option RamifiedFault) → IsFirstFault a r → IsFirstFault b r
same_faults [] [] e None h = h
same_faults [] [] e (Some fault) h = h
same_faults [] (d ∷ ds) e r h = absurd e
same_faults (c ∷ cs) [] e r h = absurd e
same_faults (c ∷ cs) (d ∷ ds) e None h = (e.0.0.0 h.0, same_faults cs ds e.1 None h.1)
same_faults (c ∷ cs) (d ∷ ds) e (Some fault) h = ⊎_elim
    (λ (n : (c.says → ⊥) × (c.fault ≡ fault)). inl ((λ s. n.0 (e.0.0.1 s)), sym e.0.1 ∙ n.1))
    (λ (t : c.says × IsFirstFault cs (Some fault)). inr (e.0.0.0 t.0, same_faults cs ds e.1 (Some fault) t.1))
    h

module _ {E : Type 0} (o : Ops E) (L : FieldLaws o) (s : Pair E → Pair E) (S : IsFractionSwap o L s)
    (A : Structure (Pair E)) (over : IsOver (fraction_ops o L) A) (os js : List (List (Pair E)))
    (mo : IsMatrix (fraction_ops o L) A.dim os) (mj : IsMatrix (fraction_ops o L) A.dim js) where
  -- the first fault at infinity is that of the images at x
  pub first_at_infinity : (r : Option RamifiedFault)
      → IsFirstFault (tuple_conditions o L (image_structure s A) (place_x o) (images s os) (images s js)) r
      → IsFirstFault (tuple_conditions o L A Infinite os js) r
  first_at_infinity =
      let w = conditions_at_infinity_at_x o L s S A over os js mo mj in
      same_faults (tuple_conditions o L (image_structure s A) (place_x o) (images s os) (images s js))
      (tuple_conditions o L A Infinite os js) (
        ((w.order_independent.1, w.order_independent.0), refl),
        (
          ((w.holds.1, w.holds.0), refl),
          (
            ((w.closed.1, w.closed.0), refl),
            (
              ((w.radical_independent.1, w.radical_independent.0), refl),
              (
                ((w.inside.1, w.inside.0), refl),
                (
                  ((w.absorbs.1, w.absorbs.0), refl),
                  (
                    ((w.over.1, w.over.0), refl),
                    (
                      ((w.power.1, w.power.0), refl),
                      (
                        ((w.simple.1, w.simple.0), refl),
                        (
                          ((w.left_order.1, w.left_order.0), refl),
                          (
                            ((w.not_multiple.1, w.not_multiple.0), refl),
                            tt,
                          ),
                        ),
                      ),
                    ),
                  ),
                ),
              ),
            ),
          ),
        ),
      )
