-- An algebra over a field by its structure constants, with its operations on tuples, and the law of associativity on
-- its basis.
-- (Reiner, Maximal Orders, section 1a.)
use Rattle.std.specs.Prelude.{◌≡◌, ℕ, ◌*◌, ◌<◌, List}
use Rattle.theory_rings.specs.Ops.{Ops}
use Rattle.theory_spaces.specs.Sets.{RingOps}
use Rattle.theory_spaces.specs.Tuples.{IsTuple, tuple_zero, tuple_add, tuple_neg, product, basis}

-- a dimension m and m³ constants: the one for the basis elements i, j and k, counted from 0, stands at (i·m + j)·m + k
pub record Structure (E : Type 0) : Type 0 where
  pub dim : ℕ
  pub constants : List E

module _ {E : Type 0} (o : Ops E) (A : Structure E) where
  -- the constants are m³ elements of the field
  abbrev pub IsOver : Type 0
  IsOver = IsTuple o (A.dim * A.dim * A.dim) A.constants

  -- m elements of the field, which stand for an element of the algebra
  abbrev pub IsElement : List E → Type 0
  IsElement a = IsTuple o A.dim a

  -- at k the sum over i and j of a_i·b_j·γ_ijk
  abbrev pub product_of : List E → List E → List E
  product_of a b = product o A.dim A.constants a b

  -- the operations of the algebra on the tuples that stand for its elements, by which sets of elements are ideals and
  -- have products and powers (theory_spaces/specs/Sets)
  abbrev pub tuple_ops : RingOps (List E)
  tuple_ops = record {
    zero = tuple_zero o A.dim;
    add = tuple_add o A.dim;
    neg = tuple_neg o A.dim;
    mul = product_of;
  }

  -- the basis element i
  abbrev pub basis_of : ℕ → List E
  basis_of i = basis o A.dim i

  -- (b_i·b_j)·b_k and b_i·(b_j·b_k) are the same
  abbrev pub AssociatesAt : ℕ → ℕ → ℕ → Type 0
  AssociatesAt i j k = product_of (product_of (basis_of i) (basis_of j)) (basis_of k) ≡ product_of (basis_of i)
      (product_of (basis_of j) (basis_of k))

  -- at all triples of basis elements
  abbrev pub IsAssociative : Type 0
  IsAssociative = (i j k : ℕ) → i < A.dim → j < A.dim → k < A.dim → AssociatesAt i j k

  -- every three elements associate
  abbrev pub AllAssociate : Type 0
  AllAssociate = (a b c : List E) → IsElement a → IsElement b → IsElement c
      → product_of (product_of a b) c ≡ product_of a (product_of b c)

-- an algebra that is associative at its basis is so everywhere
abbrev pub AssociativeEverywhere : {E : Type 0} → Ops E → Type 0
AssociativeEverywhere {E} o = (A : Structure E) → IsOver o A → IsAssociative o A → AllAssociate o A
