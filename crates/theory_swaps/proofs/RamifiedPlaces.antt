-- A ramified place at infinity is one of the images at the place x.
use Rattle.std.specs.Prelude.{◌≡◌, ◌↔◌, ℕ, List, []}
use Rattle.std.specs.List.{All}
use Rattle.std.proofs.Common.{sym, ◌∙◌, ap, subst}
use Rattle.std.proofs.Math.ListN.{get_or-map}
use Rattle.std.proofs.lemmas.List.{length-map}
use mathlib.Core.Equiv.{Iso}
use Rattle.theory_rings.specs.Ring.{FieldOn}
use Rattle.theory_rings.specs.Ops.{Ops, IsElem, FieldLaws}
use Rattle.theory_rings.specs.Elements.{Elem, Elem-path, elements}
use Rattle.theory_spaces.specs.Module.{AlgebraOn}
use Rattle.theory_spaces.specs.Tuples.{Tuple, tuple_scale}
use Rattle.theory_spaces.specs.Valuation.{ValuationOn, IsIntegral}
use Rattle.theory_spaces.proofs.Tuples.Tuples.{IsTuple-is_tuple, is_tuple-IsTuple, Tuple-path, tuples}
use Rattle.theory_spaces.proofs.Tuples.Tuples.{tuples-zero, tuples-add, tuples-neg, tuples-scale}
use Rattle.theory_tables.specs.Structure.{Structure, IsOver}
use Rattle.theory_tables.specs.Ramified.{AreTuples, RamifiedTable}
use Rattle.theory_tables.proofs.Split.CarriedTables.{KeepsTable, carried_ramified}
use Rattle.theory_fractions.specs.Fraction.{Pair}
use Rattle.theory_fractions.specs.FractionOps.{fraction_ops}
use Rattle.theory_places.specs.Places.{PlaceOf, Infinite}
use Rattle.theory_places.specs.FractionPlaces.{IsPlace, IsIntegralAt, uniformizer_at, RamifiedAtPlace}
use Rattle.theory_places.specs.FractionPlaces.{FractionPlaceValuation}
use Rattle.theory_places.proofs.FractionPlaces.{fraction_places}
use Rattle.theory_swaps.specs.Involutions.{IsInvolution, AreImages, image, images, image_structure}
use Rattle.theory_swaps.specs.FractionSwaps.{place_x, IsFractionSwap, RamifiedAtInfinityAtX}
use Rattle.theory_swaps.proofs.MappedTuples.{h, hom, image_twice, images_twice, structure_twice, tuple-image}
use Rattle.theory_swaps.proofs.MappedTuples.{image-zero, image-add, image-neg, image-scale}
use Rattle.theory_swaps.proofs.CarriedAlgebras.{over, product}
use Rattle.theory_swaps.proofs.CarriedLattices.{images_are_symmetric}
use Rattle.theory_swaps.proofs.Twisted.{twisted, ramified_twisted}
use Rattle.theory_swaps.proofs.FractionSwaps.{x_place}

-- a table with a ramified place, and the images
module _ {E : Type 0} (o : Ops E) (L : FieldLaws o) (s : E → E) (I : IsInvolution o s) (A : Structure E)
    (a : IsOver o A) where
  abbrev K : FieldOn (Elem o)
  K = elements o L

  abbrev n : ℕ
  n = A.dim

  abbrev B : Structure E
  B = image_structure s A

  abbrev V : Type 0
  V = Tuple o n

  abbrev t : Elem o → Elem o
  t = h o L s I

  t_twice : (c : Elem o) → t (t c) ≡ c
  t_twice c = Elem-path o (t (t c)) c (I.twice c.0)

  abbrev im : V → V
  im v = (
    image s v.0,
    IsTuple-is_tuple o n (image s v.0) (tuple-image o L s I n v.0 (is_tuple-IsTuple o n v.0 v.1)),
  )

  im_twice : (v : V) → im (im v) ≡ v
  im_twice v = Tuple-path o L n (im (im v)) v (image_twice o L s I v.0)

  abbrev iso : Iso V V
  iso = record { fun = im; inv = im; rinv = im_twice; linv = im_twice }

  items : (v : V) → All (IsElem o) v.0
  items v = let t = is_tuple-IsTuple o n v.0 v.1 in t.of_elements

  are_tuples : (rows : List (List E)) (v : ℕ → V) → AreTuples o L A rows v
      → AreTuples o L B (images s rows) (λ i. im (v i))
  are_tuples rows v d = record {
    count = length-map rows (image s) ∙ d.count;
    item = λ i l. ap (image s) (d.item i l) ∙ sym (get_or-map (image s) rows i []);
  }

  module _ (Z Z' : ValuationOn K) (i : (c : Elem o) → IsIntegral K Z c ↔ IsIntegral K Z' (t c)) (p q : Elem o)
      (e : q ≡ t p) where
    pub ramified_table : (os js : List (List E)) → RamifiedTable o L A Z p os js
        → RamifiedTable o L B Z' q (images s os) (images s js)
    ramified_table os js r =
        let alg = r.algebra in
        let T : AlgebraOn K.ring V = twisted K t (hom o L s I) t_twice alg in
        let is = r.is_table in
        let M = tuples o L n in
        let b = over o L s I A a in
        let keep : KeepsTable o L B b.of_elements T iso = record {
          zero-is = Tuple-path o L n (im alg.zero) M.zero
              (ap (image s) is.zero-is ∙ image-zero o L s I n ∙ sym (tuples-zero o L n));
          add-is = λ x y. Tuple-path o L n (im (alg.◌⊕◌ x y)) (M.◌⊕◌ (im x) (im y))
              (ap (image s) (is.add-is x y) ∙ image-add o L s I n x.0 y.0 (items x) (items y)
              ∙ sym (tuples-add o L n (im x) (im y)));
          neg-is = λ x. Tuple-path o L n (im (alg.neg x)) (M.neg (im x))
              (ap (image s) (is.neg-is x) ∙ image-neg o L s I n x.0 (items x) ∙ sym (tuples-neg o L n (im x)));
          scale-is = λ c x. Tuple-path o L n (im (alg.◌•◌ (t c) x)) (M.◌•◌ c (im x))
              (ap (image s) (is.scale-is (t c) x) ∙ image-scale o L s I n (t c).0 x.0 (t c).1 (items x)
              ∙ ap (λ d. tuple_scale o n d (image s x.0)) (I.twice c.0) ∙ sym (tuples-scale o L n c (im x)));
          product-is = λ x y. ap (image s) (is.product-is x y) ∙ product o L s I A a x.0 y.0 (items x) (items y);
        } in
        carried_ramified o L B b.of_elements T iso keep Z' q r.order r.radical (images s os) (images s js)
        (are_tuples os r.order r.is_order) (are_tuples js r.radical r.is_radical)
        (ramified_twisted K t (hom o L s I) t_twice alg Z Z' i p q e n r.order r.radical r.ramified)

module _ {E : Type 0} (o : Ops E) (L : FieldLaws o) (M : FieldLaws (fraction_ops o L)) (s : Pair E → Pair E)
    (S : IsFractionSwap o L s) where
  abbrev k : Ops (Pair E)
  k = fraction_ops o L

  abbrev J : IsInvolution k s
  J = S.involution

  module _ (P P' : PlaceOf (List E)) (w : IsPlace o P') (i : AreImages k s (IsIntegralAt o P) (IsIntegralAt o P'))
      (e : uniformizer_at o P' ≡ s (uniformizer_at o P)) where
    place_to : (A : Structure (Pair E)) → IsOver k A → (os js : List (List (Pair E))) → RamifiedAtPlace o L M A P os js
        → RamifiedAtPlace o L M (image_structure s A) P' (images s os) (images s js)
    place_to A a os js r =
        let v : FractionPlaceValuation o L M P = r.at_place in
        let v' : FractionPlaceValuation o L M P' = fraction_places o L M P' w in
        record {
          at_place = v';
          ramified = ramified_table k M s J A a v.valuation v'.valuation
              (λ c. let f = v.tells c in let g = v'.tells (h k M s J c) in let j = i c.0 c.1 in
              (λ z. g.1 (j.0 (f.0 z)), λ z. f.1 (j.1 (g.0 z))))
              v.p v'.p
              (Elem-path k v'.p (h k M s J v.p) (v'.p_is ∙ e ∙ ap s (sym v.p_is)))
              os js r.ramified;
        }

  pub ramified_at_x : (A : Structure (Pair E)) → IsOver k A → (os js : List (List (Pair E)))
      → RamifiedAtPlace o L M A Infinite os js
      ↔ RamifiedAtPlace o L M (image_structure s A) (place_x o) (images s os) (images s js)
  ramified_at_x A a os js =
      let B = image_structure s A in
      let x = uniformizer_at o (place_x o) in
      let y = uniformizer_at o Infinite in (
        place_to Infinite (place_x o) (x_place o L) S.integral (sym (J.twice x) ∙ ap s S.variable) A a os js,
        λ r. subst (λ X. RamifiedAtPlace o L M X Infinite os js) (structure_twice k M s J A)
            (subst (λ c. RamifiedAtPlace o L M (image_structure s B) Infinite c js) (images_twice k M s J os)
            (subst (RamifiedAtPlace o L M (image_structure s B) Infinite (images s (images s os)))
            (images_twice k M s J js)
            (place_to (place_x o) Infinite tt
            (images_are_symmetric k s J (IsIntegralAt o Infinite) (IsIntegralAt o (place_x o)) S.integral)
            (sym S.variable) B (over k M s J A a) (images s os) (images s js) r))),
      )

pub ramified_at_infinity_at_x : {E : Type 0} (o : Ops E) (L : FieldLaws o) (M : FieldLaws (fraction_ops o L))
    → RamifiedAtInfinityAtX o L M
ramified_at_infinity_at_x o L M s S = ramified_at_x o L M s S
