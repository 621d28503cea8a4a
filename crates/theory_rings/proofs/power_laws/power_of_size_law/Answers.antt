use Rattle.theory_rings.proofs.FiniteFields.FiniteFields.{power_size}
use Rattle.theory_rings.proofs.power_laws.power_of_size_law.Goals as goal

pub returns : goal.returns
returns g c = power_size g.F.FieldStructure.field
