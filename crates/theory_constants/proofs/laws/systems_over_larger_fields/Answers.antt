use Rattle.theory_constants.proofs.Systems.{system_law}
use Rattle.theory_constants.proofs.laws.systems_over_larger_fields.Goals as goal

pub returns : goal.returns
returns g c = record { systems = λ o L r N. system_law o L r N }
