-- Ideals of an algebra by structure constants over a program's field: nilpotent ones, simple algebras, and the maximal
-- two-sided ideals as a list of subspaces. (Pierce, Associative Algebras, chapters 3 and 4.)
use Rattle.std.specs.Prelude.{◌≡◌, ◌⊎◌, ◌<◌, ℕ, List, [], length, get_or}
use Rattle.theory_rings.specs.Ops.{Ops}
use Rattle.theory_spaces.specs.Sets as sets
use Rattle.theory_spaces.specs.Sets.{IsNilpotentIdeal}
use Rattle.theory_spaces.specs.Tuples.{IsTuple}
use Rattle.theory_tables.specs.Matrix.{IsMatrix}
use Rattle.theory_tables.specs.Subspace.{Rows, Combinations, SameSpan, IsSubspace}
use Rattle.theory_tables.specs.Structure.{Structure, IsOver, IsAssociative, tuple_ops}
use Rattle.theory_tables.specs.Algebras.{IsIdentity, HasIdentity, SpansIdeal, AreZero, SpansAll}

module _ {E : Type 0} (o : Ops E) (A : Structure E) where
  -- an associative algebra with identity
  pub record IsUnital : Type 0 where
    pub over : IsOver o A
    pub associative : IsAssociative o A
    pub identity : HasIdentity o A

  -- the ideals that rows span, but 0, are not nilpotent
  abbrev pub HasNoNilpotentIdeal : Type 0
  HasNoNilpotentIdeal = (one : List E) → IsIdentity o A one → (rows : List (List E)) → IsMatrix o A.dim rows
      → IsNilpotentIdeal (tuple_ops o A) one (IsTuple o A.dim) (Combinations o A.dim rows) → AreZero o A rows

  -- each ideal that rows span is 0 or everything; the two are not the same, as the dimension is at least 1
  abbrev pub IsSimple : Type 0
  IsSimple = (rows : List (List E)) → SpansIdeal o A rows → AreZero o A rows ⊎ SpansAll o A rows

  -- the combinations of the rows are a maximal two-sided ideal
  pub record SpansMaximalIdeal (rows : List (List E)) : Type 0 where
    pub shape : IsMatrix o A.dim rows
    pub maximal : sets.IsMaximalIdeal (tuple_ops o A) (IsTuple o A.dim) (Combinations o A.dim rows)

  -- the basis of subspace i of the list
  abbrev pub rows_at : List (Rows E) → ℕ → List (List E)
  rows_at items i = let s = get_or items i (record { width = A.dim; rows = [] }) in s.rows

  -- the subspaces are the maximal two-sided ideals, each once
  pub record AreMaximalIdeals (items : List (Rows E)) : Type 0 where
    pub subspaces : (i : ℕ) → i < length items → IsSubspace o (get_or items i (record { width = A.dim; rows = [] }))
    pub widths : (i : ℕ) → i < length items
        → (let s = get_or items i (record { width = A.dim; rows = [] }) in s.width) ≡ A.dim
    pub maximal : (i : ℕ) → i < length items → SpansMaximalIdeal (rows_at items i)
    pub complete : (rows : List (List E)) → SpansMaximalIdeal rows
        → (i : ℕ) × (i < length items) × SameSpan o A.dim rows (rows_at items i)
    pub distinct : (i j : ℕ) → i < length items → j < length items
        → SameSpan o A.dim (rows_at items i) (rows_at items j) → i ≡ j
