-- What the algebra of residues shows of an algebra.
use Rattle.std.specs.Prelude.{List}
use Rattle.theory_rings.specs.Ops.{Ops}
use Rattle.theory_tables.specs.Structure.{Structure}
use Rattle.theory_tables.specs.Algebras.{IsIdentity, HasSmallCentre}
use Rattle.theory_tables.specs.Traces.{IsNondegenerate}
use Rattle.spl_centre.specs.declared.by_residues.Property.{Property}
use Rattle.spl_centre.specs.declared.by_residues.Property.TheVariants.{SmallCentre, Nondegenerate}

-- the centre is the multiples of the identity, where there is one; or the trace form is nondegenerate
abbrev pub Holds : {E : Type 0} → Ops E → Structure E → Property → Type 0
Holds {E} o A SmallCentre = (one : List E) → IsIdentity o A one → HasSmallCentre o A
Holds {E} o A Nondegenerate = IsNondegenerate o A
