-- Orders of tuples modulo p, and the preimages of ideals, as lists. (Reiner, Maximal Orders, sections 6 and 39.)
use Rattle.std.specs.Prelude.{◌≡◌, ◌<◌, ℕ, ◌*◌, List, ◌++◌, length}
use Rattle.theory_rings.specs.Ops.{Ops, FieldLaws}
use Rattle.theory_rings.specs.Elements.{Elem, elements}
use Rattle.theory_rings.specs.Sum.{at, sum_of}
use Rattle.theory_spaces.specs.Sets.{Within, Same, Multiple, IsOrder, IsIdeal}
use Rattle.theory_spaces.specs.Tuples.{IsTuple, constant, tuple_scale}
use Rattle.theory_tables.specs.Matrix.{entry, IsMatrix}
use Rattle.theory_tables.specs.Subspace.{Combinations}
use Rattle.theory_tables.specs.Structure.{Structure, IsOver, IsElement, IsAssociative, tuple_ops}
use Rattle.theory_tables.specs.Algebras.{IsIdentity, HasIdentity, SpansIdeal, SpansAll}
use Rattle.theory_bases.specs.TupleLattices.{TupleLattice, AreIndependentTuples}
use Rattle.theory_left_orders.specs.ResidueRings.{ResidueRingOn}
use Rattle.theory_left_orders.specs.TupleResidues.{HasResidue, AreResidueRows, AreProductCoordinates}

module _ {E R : Type 0} (o : Ops E) (L : FieldLaws o) (P : E → Type 0) (p q : Elem o) (r : Ops R) (N : FieldLaws r)
    (D : ResidueRingOn (elements o L) (λ x. P x.0) p q (elements r N)) where
  module _ (A : Structure E) (tuples : List (List E)) where
    -- the constants are the residues of the coordinates of the products of the tuples
    pub record IsResidueTable (constants : List R) : Type 0 where
      pub shape : IsTuple r (A.dim * A.dim * A.dim) constants
      pub coordinate : ℕ → ℕ → ℕ → E
      pub coordinates : AreProductCoordinates o A tuples coordinate
      pub residues : (i j l : ℕ) → i < A.dim → j < A.dim → l < A.dim
          → HasResidue o L P p q r N D (coordinate i j l) (constant r A.dim constants i j l)

    -- x is a combination of the tuples with weights whose residues are a combination of the rows
    pub record ComesFrom (rows : List (List R)) (x : List E) : Type 0 where
      pub weights : List E
      pub tuple : IsTuple o A.dim weights
      pub combines : (c : ℕ) → c < A.dim
          → at o x c ≡ sum_of o A.dim (λ l. o.mul (at o weights l) (entry o tuples l c))
      pub residues : List R
      pub each : (l : ℕ) → l < A.dim → HasResidue o L P p q r N D (at o weights l) (at r residues l)
      pub inside : Combinations r A.dim rows residues

    -- the preimage of the span of the rows
    abbrev pub Preimage : List (List R) → List E → Type 0
    Preimage rows x = IsElement o A x × ComesFrom rows x

    -- the rows are the combinations of the tuples by the rows of weights
    pub record AreCombinations (weights rows : List (List E)) : Type 0 where
      pub count : length rows ≡ length weights
      pub shape : IsMatrix o A.dim rows
      pub combines : (i c : ℕ) → i < length weights → c < A.dim
          → entry o rows i c ≡ sum_of o A.dim (λ l. o.mul (entry o weights i l) (entry o tuples l c))

    -- the rows are p times the tuples
    pub record AreMultiples (rows : List (List E)) : Type 0 where
      pub count : length rows ≡ length tuples
      pub shape : IsMatrix o A.dim rows
      pub entries : (i c : ℕ) → i < length tuples → c < A.dim → entry o rows i c ≡ o.mul p.0 (entry o tuples i c)

    -- the preimage is the lattice of the tuples out, an ideal of the order that holds p times it, and all of the order
    -- only where the rows span everything
    pub record IsPreimage (constants : List R) (rows : List (List R)) (out : List (List E)) : Type 0 where
      pub lattice : Same (Preimage rows) (TupleLattice o P A.dim out)
      pub ideal : IsIdeal (tuple_ops o A) (TupleLattice o P A.dim tuples) (Preimage rows)
      pub over : Within (Multiple (tuple_ops o A) (tuple_scale o A.dim) p.0 (TupleLattice o P A.dim tuples))
          (Preimage rows)
      pub whole : Within (TupleLattice o P A.dim tuples) (Preimage rows)
          → SpansAll r (record { dim = A.dim; constants = constants }) rows

  -- the residues of the constants of an order are those of an associative algebra with one
  abbrev pub ResidueTablesAreAlgebras : Type 0
  ResidueTablesAreAlgebras = (A : Structure E) → IsOver o A → IsAssociative o A → (one : List E) → IsIdentity o A one
      → (tuples : List (List E)) → AreIndependentTuples o A.dim tuples
      → IsOrder (tuple_ops o A) one (TupleLattice o P A.dim tuples) → (constants : List R)
      → IsResidueTable A tuples constants
      → (let C : Structure R = record { dim = A.dim; constants = constants } in IsAssociative r C × HasIdentity r C)

  -- the preimage of an ideal of it is the lattice of the combinations by lifts of its rows, and of p times the tuples
  abbrev pub PreimagesOfRows : Type 0
  PreimagesOfRows = (A : Structure E) → IsOver o A → IsAssociative o A → (one : List E) → IsIdentity o A one
      → (tuples : List (List E)) → AreIndependentTuples o A.dim tuples
      → IsOrder (tuple_ops o A) one (TupleLattice o P A.dim tuples) → (constants : List R)
      → IsResidueTable A tuples constants → (rows : List (List R))
      → SpansIdeal r (record { dim = A.dim; constants = constants }) rows
      → (lifts lifted multiples : List (List E)) → AreResidueRows o L P p q r N D A.dim lifts rows
      → AreCombinations A tuples lifts lifted → AreMultiples A tuples multiples
      → IsPreimage A tuples constants rows (lifted ++ multiples)
