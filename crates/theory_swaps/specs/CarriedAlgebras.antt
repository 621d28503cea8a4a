-- What an automorphism of the field that is its own inverse carries from an algebra to that with the images of its
-- constants.
use Rattle.std.specs.Prelude.{◌≡◌, ◌↔◌, List}
use Rattle.theory_rings.specs.Ops.{Ops}
use Rattle.theory_tables.specs.Structure.{Structure, IsOver, IsElement, IsAssociative, product_of}
use Rattle.theory_tables.specs.Algebras.{IsIdentity, IsCentral}
use Rattle.theory_tables.specs.Traces.{trace, IsNondegenerate}
use Rattle.theory_swaps.specs.Involutions.{IsInvolution, image, image_structure}

module _ {E : Type 0} (o : Ops E) (s : E → E) where
  module _ (A : Structure E) where
    abbrev B : Structure E
    B = image_structure s A

    -- the image of a product is the product of the images; so for the trace. Associativity, identity, centre and a
    -- nondegenerate trace form are carried
    pub record CarriesAlgebra : Type 0 where
      pub over : IsOver o B
      pub product : (a b : List E) → IsElement o A a → IsElement o A b
          → image s (product_of o A a b) ≡ product_of o B (image s a) (image s b)
      pub trace : (a : List E) → IsElement o A a → s (trace o A a) ≡ trace o B (image s a)
      pub associative : IsAssociative o A ↔ IsAssociative o B
      pub identity : (e : List E) → IsIdentity o A e ↔ IsIdentity o B (image s e)
      pub central : (a : List E) → IsCentral o A a ↔ IsCentral o B (image s a)
      pub trace_form : IsNondegenerate o A ↔ IsNondegenerate o B

  abbrev pub InvolutionsCarryAlgebras : Type 0
  InvolutionsCarryAlgebras = IsInvolution o s → (A : Structure E) → IsOver o A → CarriesAlgebra A
