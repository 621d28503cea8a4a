-- What an automorphism of the field that is its own inverse carries from lattices of tuples with weights in a set to
-- lattices of the images, with weights in the image of the set.
use Rattle.std.specs.Prelude.{◌↔◌, ℕ, List}
use Rattle.theory_rings.specs.Ops.{Ops}
use Rattle.theory_tables.specs.Matrix.{IsMatrix}
use Rattle.theory_tables.specs.Structure.{Structure, IsOver}
use Rattle.theory_bases.specs.TupleLattices.{TupleLattice, SameTupleLattice, AreIndependentTuples, SpanOrder}
use Rattle.theory_bases.specs.TupleLattices.{AreTraceDual, IsTraceDualOfItself}
use Rattle.theory_swaps.specs.Involutions.{IsInvolution, AreImages, image, images, image_structure}

module _ {E : Type 0} (o : Ops E) (s : E → E) where
  -- lattices over P go to those over Q, and independent tuples to such
  pub record CarriesLattices (P Q : E → Type 0) (w : ℕ) : Type 0 where
    pub lattice : (rows : List (List E)) → IsMatrix o w rows → (v : List E)
        → TupleLattice o P w rows v ↔ TupleLattice o Q w (images s rows) (image s v)
    pub same : (a b : List (List E)) → IsMatrix o w a → IsMatrix o w b
        → SameTupleLattice o P w a b ↔ SameTupleLattice o Q w (images s a) (images s b)
    pub independent : (rows : List (List E)) → AreIndependentTuples o w rows ↔ AreIndependentTuples o w (images s rows)

  -- orders over P, bases that are dual for the trace, and lattices that are their own duals, go to such over Q
  pub record CarriesOrders (P Q : E → Type 0) (A : Structure E) : Type 0 where
    pub order : (rows : List (List E)) → SpanOrder o A P rows ↔ SpanOrder o (image_structure s A) Q (images s rows)
    pub dual : (b d : List (List E)) → IsMatrix o A.dim b → IsMatrix o A.dim d
        → AreTraceDual o A b d ↔ AreTraceDual o (image_structure s A) (images s b) (images s d)
    pub own_dual : (rows : List (List E)) → IsMatrix o A.dim rows
        → IsTraceDualOfItself o A P rows ↔ IsTraceDualOfItself o (image_structure s A) Q (images s rows)

  abbrev pub InvolutionsCarryLattices : (P Q : E → Type 0) → Type 0
  InvolutionsCarryLattices P Q = IsInvolution o s → AreImages o s P Q → (w : ℕ) → CarriesLattices P Q w

  abbrev pub InvolutionsCarryOrders : (P Q : E → Type 0) → Type 0
  InvolutionsCarryOrders P Q = IsInvolution o s → AreImages o s P Q → (A : Structure E) → IsOver o A
      → CarriesOrders P Q A
