use Rattle.theory_constants.proofs.Subfield.{extension_law}
use Rattle.theory_constants.proofs.laws.extended_field.Goals as goal

pub returns : goal.returns
returns g c = record { extension = λ o L r N. extension_law o L r N }
