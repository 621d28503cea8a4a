-- The Gram matrix of tuples for the trace form: the traces of their products; its inverse, and the common denominator
-- of that. (Reiner, Maximal Orders, sections 4 and 10.)
use Rattle.std.specs.Prelude.{◌≡◌, ◌<◌, ℕ, List, [], get_or, length, cond, nat_eq}
use Rattle.theory_rings.specs.Ops.{Ops, FieldLaws}
use Rattle.theory_rings.specs.Sum.{sum_of}
use Rattle.theory_fractions.specs.Fraction.{Pair}
use Rattle.theory_fractions.specs.FractionOps.{fraction_ops}
use Rattle.theory_tables.specs.Matrix.{entry, IsMatrix}
use Rattle.theory_tables.specs.Structure.{Structure}
use Rattle.theory_bases.specs.TupleLattices.{trace_of_product}
use Rattle.theory_bases.specs.Bases.{IsDenominatorOf}

module _ {E : Type 0} (o : Ops E) (A : Structure E) (tuples : List (List E)) where
  -- the trace of the product of the tuples i and j
  abbrev pub gram_entry : ℕ → ℕ → E
  gram_entry i j = trace_of_product o A (get_or tuples i []) (get_or tuples j [])

  -- the product of the matrix and the Gram matrix has one on the diagonal, and else zero
  pub record IsInverseGram (inverse : List (List E)) : Type 0 where
    pub count : length inverse ≡ A.dim
    pub shape : IsMatrix o A.dim inverse
    pub inverts : (i j : ℕ) → i < A.dim → j < A.dim
        → sum_of o A.dim (λ k. o.mul (entry o inverse i k) (gram_entry k j)) ≡ cond (nat_eq j i) o.one o.zero

-- the monic polynomial of least degree that makes each entry of the inverse Gram matrix a polynomial
pub record IsGramDenominator {E : Type 0} (o : Ops E) (L : FieldLaws o) (A : Structure (Pair E))
    (tuples : List (List (Pair E))) (d : List E) : Type 0 where
  pub inverse : List (List (Pair E))
  pub is_inverse : IsInverseGram (fraction_ops o L) A tuples inverse
  pub least : IsDenominatorOf o inverse d
