use Rattle.theory_constants.proofs.Generation.{associative_by_residues}
use Rattle.theory_constants.proofs.laws.associative_by_residues.Goals as goal

pub returns : goal.returns
returns g c = record { associative = λ o L r N Z q D. associative_by_residues o L r N Z q D }
