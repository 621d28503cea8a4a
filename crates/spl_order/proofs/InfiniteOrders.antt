-- Orders at infinity are the orders at the place x of the images under the automorphism that puts 1/x for x.
use Rattle.std.specs.Prelude.{◌≡◌, ◌↔◌, List, ◌∷◌, []}
use Rattle.std.proofs.Common.{sym, subst}
use Rattle.theory_rings.specs.Ops.{Ops, FieldLaws}
use Rattle.theory_fractions.specs.Fraction.{Pair}
use Rattle.theory_places.specs.Places.{Finite, Infinite}
use Rattle.theory_places.specs.FractionPlaces.{IsIntegralAt, IsMonicIrreducible}
use Rattle.theory_tables.specs.Structure.{Structure, IsOver}
use Rattle.theory_bases.specs.TupleLattices.{SpanOrder}
use Rattle.theory_bases.proofs.FractionsOver.{K}
use Rattle.theory_swaps.specs.Involutions.{images, image_structure}
use Rattle.theory_swaps.specs.FractionSwaps.{IsFractionSwap}
use Rattle.theory_swaps.proofs.FractionSwaps.{has_fraction_swap, infinity_is_the_place_x}

module _ {E : Type 0} (o : Ops E) (L : FieldLaws o) (x : List E) (x-is : x ≡ o.zero ∷ o.one ∷ []) where
  -- x is irreducible
  pub variable_place : IsMonicIrreducible o x
  variable_place = subst (IsMonicIrreducible o) (sym x-is) (let w = has_fraction_swap o L in w.place)

  module _ (A B : Structure (Pair E)) (over : IsOver (K o L) A) (rows images_of_rows : List (List (Pair E)))
      (algebra : (s : Pair E → Pair E) → IsFractionSwap o L s → B ≡ image_structure s A)
      (tuples : (s : Pair E → Pair E) → IsFractionSwap o L s → images_of_rows ≡ images s rows) where
    pub infinite_order : SpanOrder (K o L) A (IsIntegralAt o Infinite) rows
        ↔ SpanOrder (K o L) B (IsIntegralAt o (Finite x)) images_of_rows
    infinite_order =
        let w = has_fraction_swap o L in
        let c = infinity_is_the_place_x o L w.swap w.is_swap in
        let C = c.orders A over in
        let S : List E → Structure (Pair E) → List (List (Pair E)) → Type 0 = λ x B t.
        SpanOrder (K o L) A (IsIntegralAt o Infinite) rows ↔ SpanOrder (K o L) B (IsIntegralAt o (Finite x)) t in
        subst (λ x. S x B images_of_rows) (sym x-is)
        (subst (λ B. S (o.zero ∷ o.one ∷ []) B images_of_rows) (sym (algebra w.swap w.is_swap))
        (subst (S (o.zero ∷ o.one ∷ []) (image_structure w.swap A)) (sym (tuples w.swap w.is_swap)) (C.order rows)))
