-- What subspaces of a quotient come from. (Jacobson, Basic Algebra I, chapter 2.)
use Rattle.std.specs.Prelude.{◌≡◌, ◌<◌, ◌++◌, ℕ, List, [], length, get_or}
use Rattle.theory_rings.specs.Ops.{Ops}
use Rattle.theory_rings.specs.Sum.{table}
use Rattle.theory_tables.specs.Subspace.{Rows, IsSubspace, SameSpan}
use Rattle.theory_tables.specs.Structure.{Structure}
use Rattle.spl_blocks.specs.Splits.{combination_of}

module _ {E : Type 0} (o : Ops E) (A : Structure E) (lifts : List (List E)) where
  -- the combinations of the lifts by the rows
  abbrev pub lifted_rows : List (List E) → List (List E)
  lifted_rows rows = table (length rows) (λ i. combination_of o A (get_or rows i []) lifts)

  -- above is a basis of the span of the rows of below, lifted, and of the rows of an ideal
  pub record IsPulledBack (ideal : List (List E)) (below above : Rows E) : Type 0 where
    pub basis : IsSubspace o above
    pub width : above.width ≡ A.dim
    pub members : SameSpan o A.dim above.rows (lifted_rows below.rows ++ ideal)

  -- so are all, in order
  pub record AreAllPulledBack (ideal : List (List E)) (below above : List (Rows E)) : Type 0 where
    pub count : length above ≡ length below
    pub each : (i : ℕ) (b a : Rows E) → i < length below → IsPulledBack ideal (get_or below i b) (get_or above i a)
