-- The algebra whose constants are those of another times one element of the field.
use Rattle.std.specs.Prelude.{◌*◌}
use Rattle.theory_rings.specs.Ops.{Ops}
use Rattle.theory_spaces.specs.Tuples.{tuple_scale}
use Rattle.theory_tables.specs.Structure.{Structure}

-- c·γ_ijk in place of γ_ijk
abbrev pub scaled : {E : Type 0} → Ops E → E → Structure E → Structure E
scaled o c A = record {
  dim = A.dim;
  constants = tuple_scale o (A.dim * A.dim * A.dim) c A.constants;
}
