-- The middle nucleus of an algebra that need not be associative. (Schafer, An Introduction to Nonassociative Algebras,
-- chapter II.)
use Rattle.std.specs.Prelude.{◌≡◌, ◌⊎◌, ◌<◌, ℕ, List, [], length, get_or}
use Rattle.theory_rings.specs.Ops.{Ops, IsElem}
use Rattle.theory_spaces.specs.Tuples.{tuple_zero, tuple_add, tuple_scale}
use Rattle.theory_tables.specs.Matrix.{IsMatrix}
use Rattle.theory_tables.specs.Structure.{Structure, IsOver, IsElement, IsAssociative, AssociatesAt, product_of}
use Rattle.theory_tables.specs.Structure.{basis_of}
use Rattle.theory_tables.specs.Algebras.{SpansAll}

module _ {E : Type 0} (o : Ops E) (A : Structure E) where
  -- (x·g)·y = x·(g·y) for all x and y
  pub record IsMiddleNuclear (g : List E) : Type 0 where
    pub tuple : IsElement o A g
    pub associates : (x y : List E) → IsElement o A x → IsElement o A y
        → product_of o A (product_of o A x g) y ≡ product_of o A x (product_of o A g y)

  -- the tuple r of a list is the product of two before it
  pub record IsProductOfEarlier (tuples : List (List E)) (r : ℕ) : Type 0 where
    pub left : ℕ
    pub right : ℕ
    pub left_before : left < r
    pub right_before : right < r
    pub is_product : get_or tuples r [] ≡ product_of o A (get_or tuples left []) (get_or tuples right [])

  -- what the middle nucleus is closed under, and how few triples of basis elements tell that an algebra is associative
  pub record NucleusFacts : Type 0 where
    pub zero_in : IsMiddleNuclear (tuple_zero o A.dim)
    pub add_in : (g h : List E) → IsMiddleNuclear g → IsMiddleNuclear h → IsMiddleNuclear (tuple_add o A.dim g h)
    pub scale_in : (c : E) (g : List E) → IsElem o c → IsMiddleNuclear g → IsMiddleNuclear (tuple_scale o A.dim c g)
    pub product_in : (g h : List E) → IsMiddleNuclear g → IsMiddleNuclear h → IsMiddleNuclear (product_of o A g h)
    -- a basis element is in it exactly where the triples of basis elements with it in the middle associate
    pub of_basis : (j : ℕ) → j < A.dim
        → ((i k : ℕ) → i < A.dim → k < A.dim → AssociatesAt o A i j k) → IsMiddleNuclear (basis_of o A j)
    pub at_basis : (j : ℕ) → IsMiddleNuclear (basis_of o A j) → (i k : ℕ) → AssociatesAt o A i j k
    -- tuples that span everything, each in the nucleus or the product of two before it
    pub generated : (tuples : List (List E)) → IsMatrix o A.dim tuples → SpansAll o A tuples
        → ((r : ℕ) → r < length tuples → IsMiddleNuclear (get_or tuples r []) ⊎ IsProductOfEarlier tuples r)
        → IsAssociative o A

  abbrev pub NucleusLaw : Type 0
  NucleusLaw = IsOver o A → NucleusFacts
