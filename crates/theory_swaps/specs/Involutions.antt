-- Automorphisms of a program's field that are their own inverses, as that which puts 1/x for x in fractions, and the
-- images of tuples, of sets of tuples, and of an algebra by its structure constants. (Reiner, Maximal Orders, section
-- 1; Stichtenoth, Algebraic Function Fields and Codes, section 1.2.)
use Rattle.std.specs.Prelude.{◌≡◌, ◌↔◌, List, map}
use Rattle.theory_rings.specs.Ops.{Ops, IsElem}
use Rattle.theory_tables.specs.Structure.{Structure}

module _ {E : Type 0} (o : Ops E) (s : E → E) where
  -- s is its own inverse, and keeps 1, sums and products of elements
  pub record IsInvolution : Type 0 where
    pub twice : (a : E) → s (s a) ≡ a
    pub elem : (a : E) → IsElem o a → IsElem o (s a)
    pub one : s o.one ≡ o.one
    pub add : (a b : E) → IsElem o a → IsElem o b → s (o.add a b) ≡ o.add (s a) (s b)
    pub mul : (a b : E) → IsElem o a → IsElem o b → s (o.mul a b) ≡ o.mul (s a) (s b)

  -- Q holds of the images of the elements of which P holds, and of no others
  abbrev pub AreImages : (E → Type 0) → (E → Type 0) → Type 0
  AreImages P Q = (a : E) → IsElem o a → P a ↔ Q (s a)

module _ {E : Type 0} (s : E → E) where
  -- the tuple of the images
  abbrev pub image : List E → List E
  image = map s

  -- the tuples of the images
  abbrev pub images : List (List E) → List (List E)
  images = map image

  -- the images of the members of a set of tuples, where s is its own inverse
  abbrev pub ImageSet : (List E → Type 0) → List E → Type 0
  ImageSet I v = I (image v)

  -- the algebra whose constants are the images
  abbrev pub image_structure : Structure E → Structure E
  image_structure A = record { dim = A.dim; constants = image A.constants }
