-- The polynomial of a place that fits is one over the field.
use Rattle.std.specs.Prelude.{◌≡◌, ℕ, List, [], ◌∷◌}
use Rattle.std.proofs.Common.{subst}
use Rattle.theory_fractions.specs.PolynomialLists.{IsOver}
use Rattle.theory_fractions.proofs.ElementClauses.{lowest_of_elem}
use Rattle.spl_field.specs.SmallField.{small_ops, small_laws}
use Rattle.spl_field.specs.declared.small.SmallField.{SmallField}
use Rattle.spl_fraction.specs.FractionsOver.{fractions_over}
use Rattle.spl_fraction.specs.declared.place.Place.{Place}
use Rattle.spl_fraction.specs.declared.place.Place.TheVariants.{Finite}
use Rattle.spl_evidence.specs.Evidence.{PlaceFits}

pub place_over : (f : SmallField) (place : Place) → PlaceFits (fractions_over f) place → (p : List ℕ)
    → place ≡ Finite p → IsOver (small_ops f) p
place_over f place fits p is =
    let here : PlaceFits (fractions_over f) (Finite p) = subst (PlaceFits (fractions_over f)) is fits in
    let t = lowest_of_elem (small_ops f) (small_laws f) (p, 1 ∷ []) here.0 in
    t.numerator_over
