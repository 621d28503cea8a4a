use Rattle.theory_rings.proofs.FiniteFields.FiniteFields.{root_by_power}
use Rattle.theory_rings.proofs.power_laws.root_by_power_law.Goals as goal

pub returns : goal.returns
returns g c = root_by_power g.F.FieldStructure.field
