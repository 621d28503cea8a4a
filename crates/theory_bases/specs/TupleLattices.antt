-- Lattices of tuples over a program's field: the combinations of rows with weights in a given set, as the polynomials
-- among fractions, or what is integral at a place; orders on them, by structure constants, and bases that are dual for
-- the trace. (Reiner, Maximal Orders, sections 4, 8 and 10.)
use Rattle.std.specs.Prelude.{◌≡◌, ◌<◌, ℕ, List, [], get_or, length}
use Rattle.std.specs.List.{All}
use Rattle.theory_rings.specs.Ops.{Ops}
use Rattle.theory_rings.specs.Sum.{at, sum_of}
use Rattle.theory_spaces.specs.Sets.{Same, IsOrder}
use Rattle.theory_spaces.specs.Tuples.{IsTuple}
use Rattle.theory_spaces.specs.Lattice.{DualOf}
use Rattle.theory_spaces.specs.Orthogonal.{AreDual}
use Rattle.theory_tables.specs.Matrix.{entry, IsMatrix}
use Rattle.theory_tables.specs.Subspace.{AreIndependent}
use Rattle.theory_tables.specs.Structure.{Structure, tuple_ops, product_of}
use Rattle.theory_tables.specs.Algebras.{IsIdentity}
use Rattle.theory_tables.specs.Traces.{trace}

module _ {E : Type 0} (o : Ops E) (P : E → Type 0) where
  -- v is a combination of the rows, with w columns, with weights in P
  pub record InSpanOver (w : ℕ) (rows : List (List E)) (v : List E) : Type 0 where
    pub weights : List E
    pub tuple : IsTuple o (length rows) weights
    pub allowed : All P weights
    pub combines : (j : ℕ) → j < w → at o v j ≡ sum_of o (length rows) (λ i. o.mul (at o weights i) (entry o rows i j))

  -- the set of the tuples that are such combinations: the lattice of the rows
  abbrev pub TupleLattice : ℕ → List (List E) → List E → Type 0
  TupleLattice w rows v = IsTuple o w v × InSpanOver w rows v

  -- both have the same lattice
  abbrev pub SameTupleLattice : ℕ → List (List E) → List (List E) → Type 0
  SameTupleLattice w a b = Same (TupleLattice w a) (TupleLattice w b)

-- the m tuples are independent
pub record AreIndependentTuples {E : Type 0} (o : Ops E) (m : ℕ) (tuples : List (List E)) : Type 0 where
  pub count : length tuples ≡ m
  pub shape : IsMatrix o m tuples
  pub independent : AreIndependent o m tuples

module _ {E : Type 0} (o : Ops E) (A : Structure E) where
  -- independent tuples, as many as the dimension, whose lattice holds an identity and is closed under products
  pub record SpanOrder (P : E → Type 0) (tuples : List (List E)) : Type 0 where
    pub basis : AreIndependentTuples o A.dim tuples
    pub one : List E
    pub is_one : IsIdentity o A one
    pub order : IsOrder (tuple_ops o A) one (TupleLattice o P A.dim tuples)

  -- the trace of the product
  abbrev pub trace_of_product : List E → List E → E
  trace_of_product a b = trace o A (product_of o A a b)

  -- the dual basis: the trace of the product is 1 at the same place, and else 0
  abbrev pub AreTraceDual : List (List E) → List (List E) → Type 0
  AreTraceDual b d = AreDual o.zero trace_of_product o.one A.dim (λ i. get_or b i []) (λ i. get_or d i [])

  -- the tuples whose products with the lattice have traces in P are those of the lattice
  pub record IsTraceDualOfItself (P : E → Type 0) (tuples : List (List E)) : Type 0 where
    pub into : (x : List E) → IsTuple o A.dim x → DualOf trace_of_product P (TupleLattice o P A.dim tuples) x
        → TupleLattice o P A.dim tuples x
    pub back : (x : List E) → TupleLattice o P A.dim tuples x
        → DualOf trace_of_product P (TupleLattice o P A.dim tuples) x
