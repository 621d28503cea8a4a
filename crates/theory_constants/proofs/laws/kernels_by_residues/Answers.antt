use Rattle.theory_constants.proofs.Residues.{kernels_by_residues}
use Rattle.theory_constants.proofs.laws.kernels_by_residues.Goals as goal

pub returns : goal.returns
returns g c = record { kernels = λ o L r N Z q D. kernels_by_residues o L r N Z q D }
