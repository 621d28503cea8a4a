-- Fractions with 1/x put for x, item by item: the steps by which such lists grow, and that they are the images under
-- the automorphism that takes x to 1/x.
use Rattle.std.specs.Prelude.{◌≡◌, ℕ, suc, ◌+◌, ◌<◌, List, [], ◌∷◌, ◌++◌, length, get_or, map, take}
use Rattle.std.specs.Prelude.{Option, None, Some}
use Rattle.std.specs.Option.{IsSome}
use Rattle.std.specs.List.{All, AllZip}
use Rattle.std.proofs.Common.{refl, sym, ◌∙◌, ap, ap₂, subst, arith}
use Rattle.std.proofs.Math.Seq.{take-suc}
use Rattle.std.proofs.lemmas.List.Elements.{All-head, All-tail, All-push, AllZip-push}
use Rattle.theory_rings.specs.Ops.{Ops, FieldLaws, IsElem}
use Rattle.spl_field.specs.SmallField.{small_ops, small_laws}
use Rattle.spl_field.specs.declared.small.SmallField.{SmallField}
use Rattle.theory_fractions.specs.Fraction.{Pair}
use Rattle.spl_fraction.specs.FractionsOver.{fractions_over, fractions_laws}
use Rattle.spl_fraction.specs.Valuation.{IsSwapped}
use Rattle.theory_tables.specs.Matrix.{IsMatrix}
use Rattle.theory_tables.specs.Subspace.{AreIndependent}
use Rattle.theory_tables.specs.Structure.{Structure}
use Rattle.theory_bases.specs.TupleLattices.{AreIndependentTuples}
use Rattle.theory_bases.specs.Bases.{BasisForm, IsBasis, tuples_of}
use Rattle.theory_swaps.specs.Involutions.{image, images, image_structure}
use Rattle.theory_swaps.specs.FractionSwaps.{IsFractionSwap}
use Rattle.theory_swaps.proofs.FractionSwaps.{turned_is, has_fraction_swap}
use Rattle.theory_swaps.proofs.CarriedLattices.{independent_to}

-- one item more
pub zip_more : {X : Type 0} (P : X → Type 0) (R : X → X → Type 0) (xs ys zs : List X) (n : ℕ) (d y : X) → n < length xs
    → All P ys × AllZip R (take n xs) ys → zs ≡ ys ++ y ∷ [] → P y → R (get_or xs n d) y
    → All P zs × AllZip R (take (n + 1) xs) zs
zip_more P R xs ys zs n d y l h e p r =
    let m : n + 1 ≡ suc n = omega arith in (
      subst (All P) (sym e) (All-push P ys y h.0 p),
      subst (λ t. AllZip R t zs) (sym (ap (λ k. take k xs) m ∙ take-suc xs n d l))
          (subst (AllZip R (take n xs ++ get_or xs n d ∷ [])) (sym e)
          (AllZip-push R (take n xs) ys (get_or xs n d) y h.1 r)),
    )

-- items of which each is the image of the one at its place
zip_image : {X : Type 0} (P : X → Type 0) (R : X → X → Type 0) (s : X → X)
    → ((x y : X) → P x → P y → R x y → y ≡ s x) → (xs ys : List X) → All P xs → All P ys → AllZip R xs ys
    → ys ≡ map s xs
zip_image P R s h [] [] p q z = refl
zip_image P R s h [] (y ∷ ys) p q z = absurd z
zip_image P R s h (x ∷ xs) [] p q z = absurd z
zip_image P R s h (x ∷ xs) (y ∷ ys) p q z = ap₂ (λ a b. a ∷ b)
    (h x y (All-head P x xs p) (All-head P y ys q) z.0)
    (zip_image P R s h xs ys (All-tail P x xs p) (All-tail P y ys q) z.1)

-- a value is there where the case of None is absurd
pub some_of_no_none : {A : Type 0} (r : Option A) → (r ≡ None → ⊥) → IsSome r
some_of_no_none None h = absurd (h refl)
some_of_no_none (Some x) h = refl

module _ (F : SmallField) where
  abbrev o : Ops ℕ
  o = small_ops F

  abbrev L : FieldLaws o
  L = small_laws F

  abbrev k : Ops (Pair ℕ)
  k = fractions_over F

  module _ (s : Pair ℕ → Pair ℕ) (S : IsFractionSwap o L s) where
    swapped_is : (w c : Pair ℕ) → IsElem k w → IsElem k c → IsSwapped o w c → c ≡ s w
    swapped_is w c hw hc z = turned_is o L s S w c hw hc z.size z.numerator_within z.denominator_within
        z.value

    pub tuple_is : (xs ys : List (Pair ℕ)) → All (IsElem k) xs → All (IsElem k) ys → AllZip (IsSwapped o) xs ys
        → ys ≡ image s xs
    tuple_is = zip_image (IsElem k) (IsSwapped o) s swapped_is

    pub tuples_are : (xs ys : List (List (Pair ℕ))) → All (All (IsElem k)) xs → All (All (IsElem k)) ys
        → AllZip (AllZip (IsSwapped o)) xs ys → ys ≡ images s xs
    tuples_are = zip_image (All (IsElem k)) (AllZip (IsSwapped o)) (image s) tuple_is

    pub structure_is : (A B : Structure (Pair ℕ)) (cs : List (Pair ℕ)) → B.dim ≡ A.dim → B.constants ≡ cs
        → All (IsElem k) A.constants → All (IsElem k) cs → AllZip (IsSwapped o) A.constants cs
        → B ≡ image_structure s A
    structure_is A B cs d e p q z = ap₂ (λ m c. let X : Structure (Pair ℕ) = record { dim = m; constants = c } in X) d
        (e ∙ tuple_is A.constants cs p q z)

  -- the swapped tuples of a basis
  module _ (n : ℕ) (b : BasisForm ℕ) (h : IsBasis o L n b) (ts : List (List (Pair ℕ))) (e : ts ≡ tuples_of o L b) where
    pub basis-elems : All (All (IsElem k)) ts
    basis-elems = subst (All (All (IsElem k))) (sym e) (λ i d l. let t = h.independent in (t.shape i d l).of_elements)

    module _ (rows : List (List (Pair ℕ))) (p : All (All (IsElem k)) rows)
        (z : AllZip (AllZip (IsSwapped o)) ts rows) where
      pub rows-images : (s : Pair ℕ → Pair ℕ) → IsFractionSwap o L s → rows ≡ images s (tuples_of o L b)
      rows-images s S = tuples_are s S ts rows basis-elems p z ∙ ap (images s) e

      rows-independent : AreIndependentTuples k n rows
      rows-independent =
          let w = has_fraction_swap o L in
          let i = w.is_swap in
          subst (AreIndependentTuples k n) (sym (rows-images w.swap i))
          (independent_to k (fractions_laws F) w.swap i.involution n (tuples_of o L b) h.independent)

      pub rows-square : IsMatrix k (length rows) rows
      rows-square = let r = rows-independent in subst (λ m. IsMatrix k m rows) (sym r.count) r.shape

      pub some_basis : {A : Type 0} (r : Option A) → (r ≡ None → AreIndependent k (length rows) rows → ⊥) → IsSome r
      some_basis r f = let i = rows-independent in
          some_of_no_none r (λ q. f q (subst (λ m. AreIndependent k m rows) (sym i.count) i.independent))

      pub sized : (c : BasisForm ℕ) → IsBasis o L (length rows) c → (m : ℕ) → IsBasis o L m b → IsBasis o L m c
      sized c hc m hm =
          let r = rows-independent in
          let a = h.independent in
          let d = hm.independent in
          subst (λ j. IsBasis o L j c) (r.count ∙ sym a.count ∙ d.count) hc

      pub zipped : AllZip (AllZip (IsSwapped o)) (tuples_of o L b) rows
      zipped = subst (λ t. AllZip (AllZip (IsSwapped o)) t rows) e z
