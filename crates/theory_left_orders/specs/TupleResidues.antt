-- Tuples over a program's field with a subring that has a residue field: residues of entries, left orders by a matrix
-- over the residue field. (Cohen, A Course in Computational Algebraic Number Theory, section 6.1.)
use Rattle.std.specs.Prelude.{◌≡◌, ◌<◌, ℕ, ◌+◌, ◌*◌, List, [], ◌++◌, length, get_or}
use Rattle.theory_rings.specs.Ops.{Ops, IsElem, FieldLaws}
use Rattle.theory_rings.specs.Elements.{Elem, elements}
use Rattle.theory_rings.specs.Sum.{at, sum_of}
use Rattle.theory_spaces.specs.Sets.{Within, Same, Multiple, IsOrder, IsIdeal, LeftOrder}
use Rattle.theory_spaces.specs.Tuples.{tuple_scale}
use Rattle.theory_tables.specs.Matrix.{entry, IsMatrix}
use Rattle.theory_tables.specs.Subspace.{SpansKernel}
use Rattle.theory_tables.specs.Structure.{Structure, IsOver, IsElement, IsAssociative, tuple_ops, product_of}
use Rattle.theory_tables.specs.Algebras.{IsIdentity}
use Rattle.theory_bases.specs.TupleLattices.{TupleLattice, AreIndependentTuples}
use Rattle.theory_left_orders.specs.ResidueRings.{ResidueRingOn}

-- coordinates by the tuples of their products: at i, j and l that of the product of i and j at l
pub record AreProductCoordinates {E : Type 0} (o : Ops E) (A : Structure E) (tuples : List (List E))
    (coordinate : ℕ → ℕ → ℕ → E) : Type 0 where
  pub elements_of : (i j l : ℕ) → IsElem o (coordinate i j l)
  pub products : (i j c : ℕ) → i < A.dim → j < A.dim → c < A.dim
      → at o (product_of o A (get_or tuples i []) (get_or tuples j [])) c
      ≡ sum_of o A.dim (λ l. o.mul (coordinate i j l) (entry o tuples l c))

module _ {E R : Type 0} (o : Ops E) (L : FieldLaws o) (P : E → Type 0) (p q : Elem o) (r : Ops R) (N : FieldLaws r)
    (D : ResidueRingOn (elements o L) (λ x. P x.0) p q (elements r N)) where
  -- a is an element of the subring with the residue b
  pub record HasResidue (a : E) (b : R) : Type 0 where
    pub elem : IsElem o a
    pub allowed : P a
    pub residue : (D.res (a, elem)).0 ≡ b

  -- the rows of b are the residues of those of a, with w columns
  pub record AreResidueRows (w : ℕ) (a : List (List E)) (b : List (List R)) : Type 0 where
    pub count : length a ≡ length b
    pub shape : IsMatrix o w a
    pub entries : (i j : ℕ) → i < length a → j < w → HasResidue (entry o a i j) (entry r b i j)

  module _ (A : Structure E) (tuples : List (List E)) where
    -- the matrix has the residue of coordinate l of the product of i and j in the row j·n + l and the column i
    pub record IsProductMatrix (a : List (List R)) : Type 0 where
      pub coordinate : ℕ → ℕ → ℕ → E
      pub coordinates : AreProductCoordinates o A tuples coordinate
      pub residues : (i j l : ℕ) → i < A.dim → j < A.dim → l < A.dim
          → HasResidue (coordinate i j l) (entry r a (j * A.dim + l) i)

    -- p times the rows of grown are the combinations of the tuples by the rows of lifts
    pub record AreOverP (lifts grown : List (List E)) : Type 0 where
      pub count : length grown ≡ length lifts
      pub shape : IsMatrix o A.dim grown
      pub combines : (i c : ℕ) → i < length lifts → c < A.dim
          → o.mul p.0 (entry o grown i c) ≡ sum_of o A.dim (λ l. o.mul (entry o lifts i l) (entry o tuples l c))

    -- the lattice holds p and is closed under products, as an ideal of an order over p times it
    pub record IsClosedTuples (one : List E) : Type 0 where
      pub holds : TupleLattice o P A.dim tuples (tuple_scale o A.dim p.0 one)
      pub products : (x y : List E) → TupleLattice o P A.dim tuples x → TupleLattice o P A.dim tuples y
          → TupleLattice o P A.dim tuples (product_of o A x y)

    -- the elements that send the lattice into itself from the left
    abbrev pub LeftOrderOf : List E → Type 0
    LeftOrderOf a = IsElement o A a × LeftOrder (tuple_ops o A) (TupleLattice o P A.dim tuples) a

  -- the left order of an ideal over p times an order: an order that holds the given one; the ideal holds p and is
  -- closed under products
  pub record IsLeftOrderOver (A : Structure E) (one : List E) (order ideal : List (List E)) : Type 0 where
    pub is_order : IsOrder (tuple_ops o A) one (LeftOrderOf A ideal)
    pub holds : Within (TupleLattice o P A.dim order) (LeftOrderOf A ideal)
    pub closed : IsClosedTuples A ideal one

  abbrev pub LeftOrdersAreOrders : Type 0
  LeftOrdersAreOrders = (A : Structure E) → IsOver o A → IsAssociative o A → (one : List E) → IsIdentity o A one
      → (order ideal : List (List E)) → AreIndependentTuples o A.dim ideal
      → IsOrder (tuple_ops o A) one (TupleLattice o P A.dim order)
      → IsIdeal (tuple_ops o A) (TupleLattice o P A.dim order) (TupleLattice o P A.dim ideal)
      → Within (Multiple (tuple_ops o A) (tuple_scale o A.dim) p.0 (TupleLattice o P A.dim order))
      (TupleLattice o P A.dim ideal)
      → IsLeftOrderOver A one order ideal

  -- the left order of the lattice is the lattice of the tuples, and of what p times is a combination of them by lifts
  -- of a basis of the kernel
  abbrev pub LeftOrderOfTuples : Type 0
  LeftOrderOfTuples = (A : Structure E) → IsOver o A → IsAssociative o A → (one : List E) → IsIdentity o A one
      → (tuples : List (List E)) → AreIndependentTuples o A.dim tuples → IsClosedTuples A tuples one
      → (a rows : List (List R)) → IsProductMatrix A tuples a → IsMatrix r A.dim rows
      → SpansKernel r (A.dim * A.dim) A.dim a rows
      → (lifts grown : List (List E)) → AreResidueRows A.dim lifts rows → AreOverP A tuples lifts grown
      → Same (LeftOrderOf A tuples) (TupleLattice o P A.dim (grown ++ tuples))
