-- An automorphism of the field that is its own inverse carries sets of elements of an algebra to those of the images.
use Rattle.std.specs.Prelude.{◌≡◌, ℕ, List}
use Rattle.std.proofs.Common.{◌∙◌, ap, subst}
use Rattle.theory_rings.specs.Ops.{Ops, IsElem, FieldLaws}
use Rattle.theory_rings.proofs.Rings.Elements.{at-elem}
use Rattle.theory_spaces.specs.Sets.{Within, RingOps, IsOrder, Products, Power, LeftOrder, Multiple}
use Rattle.theory_spaces.specs.Tuples.{tuple_scale}
use Rattle.theory_spaces.proofs.Tuples.Tuples.{IsTuple-table}
use Rattle.theory_spaces.proofs.Tuples.TupleProducts.{IsTuple-product}
use Rattle.theory_tables.specs.Structure.{Structure, IsOver, IsElement, tuple_ops}
use Rattle.theory_rings.specs.Sum.{at}
use Rattle.theory_swaps.specs.Involutions.{IsInvolution, image, ImageSet, image_structure}
use Rattle.theory_swaps.specs.CarriedSets.{CarriesSets, InvolutionsCarrySets}
use Rattle.theory_swaps.proofs.MappedTuples.{image_twice, structure_twice, tuple-image}
use Rattle.theory_swaps.proofs.MappedTuples.{image-zero, image-add, image-neg, image-scale}
use Rattle.theory_swaps.proofs.CarriedAlgebras.{over, product}
use Rattle.theory_swaps.proofs.MappedSets.{Keeps, Goes, goes, goes_back, products_to, ideal_to, order_to, left_order_to}
use Rattle.theory_swaps.proofs.MappedSets.{powers_go, multiple_to, radical_to}

module _ {E : Type 0} (o : Ops E) (L : FieldLaws o) (s : E → E) (I : IsInvolution o s) where
  abbrev im : List E → List E
  im = image s

  abbrev pub twice : (x : List E) → im (im x) ≡ x
  twice = image_twice o L s I

  pub keeps : (A : Structure E) → IsOver o A
      → Keeps im twice (IsElement o A) (tuple_ops o A) (tuple_ops o (image_structure s A))
  keeps A h =
      let n = A.dim in
      record {
        zero_in = IsTuple-table o n (λ _. o.zero) (λ k l. L.zero-elem);
        add_in = λ x y hx hy. IsTuple-table o n (λ k. o.add (at o x k) (at o y k)) (λ k l.
            L.add-elem (at o x k) (at o y k) (at-elem o L x hx.of_elements k) (at-elem o L y hy.of_elements k));
        mul_in = IsTuple-product o L n A.constants h.of_elements;
        zero = image-zero o L s I n;
        add = λ x y hx hy. image-add o L s I n x y hx.of_elements hy.of_elements;
        neg = λ x hx. image-neg o L s I n x hx.of_elements;
        mul = λ x y hx hy. product o L s I A h x y hx.of_elements hy.of_elements;
      }

  pub keeps_back : (A : Structure E) → IsOver o A
      → Keeps im twice (IsElement o A) (tuple_ops o (image_structure s A)) (tuple_ops o A)
  keeps_back A h =
      let B = image_structure s A in
      subst (λ X. Keeps im twice (IsElement o A) (tuple_ops o B) (tuple_ops o X)) (structure_twice o L s I A)
      (keeps B (over o L s I A h))

  module _ (A : Structure E) (h : IsOver o A) where
    abbrev n : ℕ
    n = A.dim

    abbrev B : Structure E
    B = image_structure s A

    abbrev U : List E → Type 0
    U = IsElement o A

    abbrev u : (x : List E) → U x → U (im x)
    u = tuple-image o L s I n

    abbrev K : Keeps im twice U (tuple_ops o A) (tuple_ops o B)
    K = keeps A h

    abbrev K' : Keeps im twice U (tuple_ops o B) (tuple_ops o A)
    K' = keeps_back A h

    abbrev S : RingOps (List E)
    S = tuple_ops o A

    abbrev T : RingOps (List E)
    T = tuple_ops o B

    pub carries_sets : (I₁ J : List E → Type 0) → Within I₁ U → Within J U → CarriesSets o s I₁ J A
    carries_sets M J wM wJ =
        let gM : Goes im twice U M (ImageSet s M) = goes im twice U M in
        let gJ : Goes im twice U J (ImageSet s J) = goes im twice U J in
        let bM : Goes im twice U (ImageSet s M) M = goes_back im twice U gM in
        let bJ : Goes im twice U (ImageSet s J) J = goes_back im twice U gJ in
        let vM : Within (ImageSet s M) U = λ x i. subst U (twice x) (u (im x) (wM (im x) i)) in
        let vJ : Within (ImageSet s J) U = λ x i. subst U (twice x) (u (im x) (wJ (im x) i)) in
        let there : (p : E) → IsElem o p → (x : List E) → U x
        → im (tuple_scale o n p x) ≡ tuple_scale o n (s p) (im x) =
        λ p hp x hx. image-scale o L s I n p x hp hx.of_elements in
        let back : (p : E) → IsElem o p → (x : List E) → U x
        → im (tuple_scale o n (s p) x) ≡ tuple_scale o n p (im x) =
        λ p hp x hx. there (s p) (I.elem p hp) x hx ∙ ap (λ q. tuple_scale o n q (im x)) (I.twice p) in
        record {
          order = λ one h1. (
            order_to im twice U u S T K K' one M (ImageSet s M) wM gM,
            λ d. subst (λ x. IsOrder S x M) (twice one)
                (order_to im twice U u T S K' K (im one) (ImageSet s M) M vM bM d),
          );
          ideal = (
            ideal_to im twice U u S T K K' M J wM wJ (ImageSet s M) (ImageSet s J) gM gJ,
            ideal_to im twice U u T S K' K (ImageSet s M) (ImageSet s J) vM vJ M J bM bJ,
          );
          products = (
            λ x p. subst (Products T (ImageSet s M) (ImageSet s J)) (twice x)
                (products_to im twice U u S T K K' M J wM wJ (ImageSet s M) (ImageSet s J) gM gJ (im x) p),
            products_to im twice U u T S K' K (ImageSet s M) (ImageSet s J) vM vJ M J bM bJ,
          );
          power = λ e. let P = powers_go im twice U u S T K K' J (ImageSet s J) wJ vJ gJ e in (
            λ x p. subst (Power T (ImageSet s J) e) (twice x) (P.into (im x) p),
            P.back,
          );
          left_order = λ a ha. (
            left_order_to im twice U u S T K K' J (ImageSet s J) wJ gJ a ha,
            λ d. subst (LeftOrder S J) (twice a)
                (left_order_to im twice U u T S K' K (ImageSet s J) J vJ bJ (im a) (u a ha) d),
          );
          multiple = λ p hp. (
            λ x m. subst (Multiple T (tuple_scale o n) (s p) (ImageSet s M)) (twice x)
                (multiple_to im twice U u (tuple_scale o n) (tuple_scale o n) p (s p) (there p hp) S T M
                (ImageSet s M) wM gM (im x) m),
            multiple_to im twice U u (tuple_scale o n) (tuple_scale o n) (s p) p (back p hp) T S (ImageSet s M) M vM bM,
          );
          radical = λ p hp. (
            radical_to im twice U u (tuple_scale o n) (tuple_scale o n) p (s p) (there p hp) (back p hp) S T K
                K' M (ImageSet s M) J (ImageSet s J) wM vM gM gJ,
            radical_to im twice U u (tuple_scale o n) (tuple_scale o n) (s p) p (back p hp) (there p hp) T S K'
                K (ImageSet s M) M (ImageSet s J) J vM wM bM bJ,
          );
        }

pub involutions_carry_sets : {E : Type 0} (o : Ops E) (L : FieldLaws o) (s : E → E) (M J : List E → Type 0)
    → InvolutionsCarrySets o s M J
involutions_carry_sets o L s M J I A h wM wJ = carries_sets o L s I A h M J wM wJ
