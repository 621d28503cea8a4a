-- A basis of the radical of the trace form, as evidence.
use Rattle.std.specs.Prelude.{◌↔◌, List}
use Rattle.theory_rings.specs.Ops.{Ops}
use Rattle.theory_spaces.specs.Tuples.{IsTuple}
use Rattle.theory_tables.specs.Subspace.{InSpan}
use Rattle.theory_tables.specs.Structure.{Structure}
use Rattle.theory_tables.specs.Traces.{InTraceRadical}
use Rattle.theory_tables.specs.Claims.{IdealClaim}

-- the tuples are a basis of an ideal, neither 0 nor everything, and it is the radical of the trace form
pub record IsTraceIdeal {E : Type 0} (o : Ops E) (A : Structure E) (tuples : List (List E)) : Type 0 where
  pub claim : IdealClaim o A tuples
  pub spans : (a : List E) → IsTuple o A.dim a → (InSpan o A.dim tuples a ↔ InTraceRadical o A a)
