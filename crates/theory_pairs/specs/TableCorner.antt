-- The corner of an algebra of tuples by structure constants, as such an algebra over the same field of a program.
-- (Pierce, Associative Algebras, chapter 6.)
use Rattle.std.specs.Prelude.{◌≡◌, ℕ}
use Rattle.theory_rings.specs.Ops.{Ops, FieldLaws}
use Rattle.theory_rings.specs.Elements.{elements}
use Rattle.theory_spaces.specs.Module.{AlgebraOn}
use Rattle.theory_spaces.specs.Tuples.{Tuple, IsTableAlgebra}
use Rattle.theory_tables.specs.Structure.{Structure, IsOver}
use Rattle.theory_pairs.specs.Corner.{IsCorner}

module _ {E : Type 0} (o : Ops E) (L : FieldLaws o) where
  -- a dimension and structure constants, which make the tuples an algebra that is the corner of e
  pub record TableOfCorner (n : ℕ) (A : AlgebraOn (elements o L).ring (Tuple o n)) (e : Tuple o n) : Type 0 where
    pub structure : Structure E
    pub over : IsOver o structure
    pub algebra : AlgebraOn (elements o L).ring (Tuple o structure.dim)
    pub is_table : IsTableAlgebra o L structure.dim structure.constants algebra
    pub inclusion : Tuple o structure.dim → Tuple o n
    pub corner : IsCorner A e algebra inclusion

  -- each idempotent of the algebra of a table has one
  abbrev pub TablesHaveCorners : Type 0
  TablesHaveCorners =
      (T : Structure E) (A : AlgebraOn (elements o L).ring (Tuple o T.dim)) → IsTableAlgebra o L T.dim T.constants A
      → (e : Tuple o T.dim) → A.◌⊗◌ e e ≡ e → TableOfCorner T.dim A e
