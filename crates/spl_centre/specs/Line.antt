-- A centre on a line.
use Rattle.std.specs.Prelude.{List}
use Rattle.theory_rings.specs.Ops.{Ops}
use Rattle.theory_spaces.specs.Tuples.{IsTuple}
use Rattle.theory_tables.specs.Structure.{Structure}
use Rattle.theory_tables.specs.Algebras.{IsCentral, IsMultiple}

-- the central elements are multiples of one tuple
pub record CentreIsOnLine {E : Type 0} (o : Ops E) (A : Structure E) : Type 0 where
  pub along : List E
  pub tuple : IsTuple o A.dim along
  pub multiple : (v : List E) → IsCentral o A v → IsMultiple o A along v
