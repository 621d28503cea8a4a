-- Algebras by structure constants, and linear systems, over a field contained in another.
use Rattle.std.specs.Prelude.{◌≡◌, ◌↔◌, ◌*◌, ℕ, List}
use Rattle.theory_rings.specs.Ops.{Ops, IsElem}
use Rattle.theory_rings.specs.Sum.{table, at}
use Rattle.theory_tables.specs.Structure.{Structure, IsOver, IsElement, AssociatesAt, product_of}
use Rattle.theory_tables.specs.Algebras.{IsIdentity, IsCentral}

module _ {E R : Type 0} (o : Ops E) (r : Ops R) (f : E → R) where
  -- f takes elements to elements, and keeps 0, 1, sums and products
  pub record IsFieldMap : Type 0 where
    pub map-elem : (a : E) → IsElem o a → IsElem r (f a)
    pub map-zero : f o.zero ≡ r.zero
    pub map-one : f o.one ≡ r.one
    pub map-add : (a b : E) → IsElem o a → IsElem o b → f (o.add a b) ≡ r.add (f a) (f b)
    pub map-mul : (a b : E) → IsElem o a → IsElem o b → f (o.mul a b) ≡ r.mul (f a) (f b)

  -- the images of the n items of a list
  abbrev pub images : ℕ → List E → List R
  images n a = table n (λ k. f (at o a k))

  -- the algebra with the images of the constants
  abbrev pub extended : Structure E → Structure R
  extended A = record { dim = A.dim; constants = images (A.dim * A.dim * A.dim) A.constants }

  -- what the algebra with the images of the constants has of that with the constants
  pub record KeepsByExtension (A : Structure E) : Type 0 where
    pub over : IsOver r (extended A)
    pub product : (a b : List E) → IsElement o A a → IsElement o A b
        → product_of r (extended A) (images A.dim a) (images A.dim b) ≡ images A.dim (product_of o A a b)
    pub triple : (i j k : ℕ) → AssociatesAt o A i j k ↔ AssociatesAt r (extended A) i j k
    pub identity : (e : List E) → IsElement o A e
        → (IsIdentity o A e ↔ IsIdentity r (extended A) (images A.dim e))
    pub central : (a : List E) → IsElement o A a
        → (IsCentral o A a ↔ IsCentral r (extended A) (images A.dim a))

  abbrev pub ExtensionLaw : Structure E → Type 0
  ExtensionLaw A = IsFieldMap → IsOver o A → KeepsByExtension A
