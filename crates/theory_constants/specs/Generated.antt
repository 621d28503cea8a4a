-- Subalgebras that basis elements generate, of an algebra that need not be associative. (Schafer, An Introduction to
-- Nonassociative Algebras, chapter II.)
use Rattle.std.specs.Prelude.{◌≡◌, ◌<◌, ◌*◌, ℕ, List, length, get_or}
use Rattle.theory_rings.specs.Ops.{Ops, IsElem, FieldLaws}
use Rattle.theory_rings.specs.Elements.{Elem, elements}
use Rattle.theory_rings.specs.Sum.{at}
use Rattle.theory_spaces.specs.Tuples.{tuple_zero, tuple_add, tuple_scale}
use Rattle.theory_spaces.specs.Valuation.{ValuationOn, IsIntegral}
use Rattle.theory_tables.specs.Structure.{Structure, IsOver, IsAssociative, AssociatesAt, basis_of, product_of}
use Rattle.theory_residue.specs.Residue.{ResidueOn}

-- the subalgebra that the basis elements at these places generate: the least set that holds them and 0, and is closed
-- under sums, multiples and products
pub data InSubalgebra {E : Type 0} (o : Ops E) (A : Structure E) (by : List ℕ) : List E → Type 0 where
  generator_in : (s : ℕ) → s < length by → InSubalgebra o A by (basis_of o A (get_or by s 0))
  zero_in : InSubalgebra o A by (tuple_zero o A.dim)
  add_in : (a b : List E) → InSubalgebra o A by a → InSubalgebra o A by b
      → InSubalgebra o A by (tuple_add o A.dim a b)
  scale_in : (c : E) (a : List E) → IsElem o c → InSubalgebra o A by a → InSubalgebra o A by (tuple_scale o A.dim c a)
  mul_in : (a b : List E) → InSubalgebra o A by a → InSubalgebra o A by b → InSubalgebra o A by (product_of o A a b)

-- they generate the algebra: the subalgebra holds each basis element
pub record Generates {E : Type 0} (o : Ops E) (A : Structure E) (by : List ℕ) : Type 0 where
  pub within : (s : ℕ) → s < length by → get_or by s 0 < A.dim
  pub all : (j : ℕ) → j < A.dim → InSubalgebra o A by (basis_of o A j)

-- the triples with one of these basis elements in the middle associate
abbrev pub MiddlesAssociate : {E : Type 0} → Ops E → Structure E → List ℕ → Type 0
MiddlesAssociate o A by = (s i k : ℕ) → s < length by → i < A.dim → k < A.dim → AssociatesAt o A i (get_or by s 0) k

module _ {E R : Type 0} (o : Ops E) (L : FieldLaws o) (r : Ops R) (N : FieldLaws r)
    (Z : ValuationOn (elements o L)) (q : Elem o) (D : ResidueOn (elements o L) Z q (elements r N)) where
  -- the n constants are integral, and these are their residues
  pub record AreResidues (n : ℕ) (constants : List E) (residues : List R) : Type 0 where
    pub integral : (p : ℕ) → p < n → (x : Elem o) → x.0 ≡ at o constants p → IsIntegral (elements o L) Z x
    pub residue : (p : ℕ) → p < n → (x : Elem o) → x.0 ≡ at o constants p → (D.res x).0 ≡ at r residues p

  -- where basis elements generate the algebra with the residues of the constants, and all triples with these in the
  -- middle associate, the algebra is associative
  abbrev pub AssociativeByResidues : Type 0
  AssociativeByResidues = (A : Structure E) → IsOver o A → (residues : List R)
      → AreResidues (A.dim * A.dim * A.dim) A.constants residues
      → (by : List ℕ) → Generates r (record { dim = A.dim; constants = residues }) by → MiddlesAssociate o A by
      → IsAssociative o A
