-- The centre of an algebra as a subspace, and the ideal that a subspace generates.
use Rattle.std.specs.Prelude.{◌↔◌, List}
use Rattle.theory_rings.specs.Ops.{Ops}
use Rattle.theory_spaces.specs.Tuples.{IsTuple}
use Rattle.theory_tables.specs.Subspace.{InSpan}
use Rattle.theory_tables.specs.Algebras.{IsCentral, SpansIdeal}
use Rattle.theory_tables.specs.Structure.{Structure}

module _ {E : Type 0} (o : Ops E) (A : Structure E) where
  -- the combinations of the rows are the central elements
  abbrev pub SpansCentre : List (List E) → Type 0
  SpansCentre rows = (v : List E) → IsTuple o A.dim v → (InSpan o A.dim rows v ↔ IsCentral o A v)

  -- the rows span an ideal that holds the combinations of `by`, and lies in each ideal that does
  pub record GeneratesIdeal (by rows : List (List E)) : Type 0 where
    pub ideal : SpansIdeal o A rows
    pub holds : (v : List E) → IsTuple o A.dim v → InSpan o A.dim by v → InSpan o A.dim rows v
    pub least : (other : List (List E)) → SpansIdeal o A other
        → ((v : List E) → IsTuple o A.dim v → InSpan o A.dim by v → InSpan o A.dim other v)
        → (v : List E) → IsTuple o A.dim v → InSpan o A.dim rows v → InSpan o A.dim other v
