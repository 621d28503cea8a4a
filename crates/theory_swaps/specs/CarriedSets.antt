-- What an automorphism of the field that is its own inverse carries from sets of elements of an algebra to the sets of
-- their images: ideals, left orders, multiples, powers, the radical. (Reiner, Maximal Orders, sections 6 and 39.)
use Rattle.std.specs.Prelude.{◌↔◌, ℕ, List}
use Rattle.theory_rings.specs.Ops.{Ops, IsElem}
use Rattle.theory_spaces.specs.Sets.{Within, Same, IsOrder, IsIdeal, Products, Power, LeftOrder, Multiple, Radical}
use Rattle.theory_spaces.specs.Tuples.{tuple_scale}
use Rattle.theory_tables.specs.Structure.{Structure, IsOver, IsElement, tuple_ops}
use Rattle.theory_swaps.specs.Involutions.{IsInvolution, image, ImageSet, image_structure}

module _ {E : Type 0} (o : Ops E) (s : E → E) (I J : List E → Type 0) where
  module _ (A : Structure E) where
    abbrev B : Structure E
    B = image_structure s A

    -- what holds of sets I and J of elements holds of the sets of their images, and products, powers, left orders and
    -- multiples of these are the images
    pub record CarriesSets : Type 0 where
      pub order : (one : List E) → IsElement o A one
          → IsOrder (tuple_ops o A) one I ↔ IsOrder (tuple_ops o B) (image s one) (ImageSet s I)
      pub ideal : IsIdeal (tuple_ops o A) I J ↔ IsIdeal (tuple_ops o B) (ImageSet s I) (ImageSet s J)
      pub products : Same (ImageSet s (Products (tuple_ops o A) I J))
          (Products (tuple_ops o B) (ImageSet s I) (ImageSet s J))
      pub power : (e : ℕ) → Same (ImageSet s (Power (tuple_ops o A) J e)) (Power (tuple_ops o B) (ImageSet s J) e)
      pub left_order : (a : List E) → IsElement o A a
          → LeftOrder (tuple_ops o A) J a ↔ LeftOrder (tuple_ops o B) (ImageSet s J) (image s a)
      pub multiple : (p : E) → IsElem o p
          → Same (ImageSet s (Multiple (tuple_ops o A) (tuple_scale o A.dim) p I))
          (Multiple (tuple_ops o B) (tuple_scale o A.dim) (s p) (ImageSet s I))
      pub radical : (p : E) → IsElem o p → Radical (tuple_ops o A) (tuple_scale o A.dim) p I J
          ↔ Radical (tuple_ops o B) (tuple_scale o A.dim) (s p) (ImageSet s I) (ImageSet s J)

  abbrev pub InvolutionsCarrySets : Type 0
  InvolutionsCarrySets = IsInvolution o s → (A : Structure E) → IsOver o A → Within I (IsElement o A)
      → Within J (IsElement o A) → CarriesSets A
