-- The regular trace, the radical of the trace form, and nilpotent ideals, of an algebra by its structure constants.
-- (Reiner, Maximal Orders, section 9.)
use Rattle.std.specs.Prelude.{ℕ, List}
use Rattle.theory_rings.specs.Ops.{Ops}
use Rattle.theory_rings.specs.Sum.{sum_of, table, at}
use Rattle.theory_spaces.specs.Sets.{Within, Zero, Power}
use Rattle.theory_spaces.specs.Orthogonal.{Orthogonal}
use Rattle.theory_spaces.specs.Tuples.{IsTuple}
use Rattle.theory_tables.specs.Subspace.{Combinations}
use Rattle.theory_tables.specs.Structure.{Structure, tuple_ops, product_of, basis_of}

module _ {E : Type 0} (o : Ops E) (A : Structure E) where
  -- the matrix of the multiplication by a from the left: column j has the coordinates of a·b_j
  abbrev pub left_matrix : List E → List (List E)
  left_matrix a = table A.dim (λ k. table A.dim (λ j. at o (product_of o A a (basis_of o A j)) k))

  -- the trace of the multiplication by a from the left: the sum over j of the coefficient of b_j in a·b_j
  abbrev pub trace : List E → E
  trace a = sum_of o A.dim (λ j. at o (product_of o A a (basis_of o A j)) j)

  -- the matrix of the trace form: tr(b_i·b_j) at (i, j)
  abbrev pub trace_matrix : List (List E)
  trace_matrix = table A.dim (λ i. table A.dim (λ j. trace (product_of o A (basis_of o A i) (basis_of o A j))))

  -- tr(a·b) = 0 for each tuple b
  pub record InTraceRadical (a : List E) : Type 0 where
    pub tuple : IsTuple o A.dim a
    pub orthogonal : Orthogonal o.zero (λ a b. trace (product_of o A a b)) (IsTuple o A.dim) a

  -- the trace form is nondegenerate: 0 alone is in its radical
  abbrev pub IsNondegenerate : Type 0
  IsNondegenerate = Within InTraceRadical (Zero (tuple_ops o A))

  -- some power of the set of all combinations of the rows is 0
  pub record PowerVanishes (rows : List (List E)) : Type 0 where
    pub exponent : ℕ
    pub vanishes : Within (Power (tuple_ops o A) (Combinations o A.dim rows) exponent) (Zero (tuple_ops o A))
