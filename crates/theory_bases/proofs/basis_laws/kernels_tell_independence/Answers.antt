use Rattle.theory_bases.proofs.KernelTests.{kernel_tells}
use Rattle.theory_bases.proofs.basis_laws.kernels_tell_independence.Goals as goal

pub returns : goal.returns
returns g c = kernel_tells g.F.ProgramField.ops g.F.ProgramField.laws
