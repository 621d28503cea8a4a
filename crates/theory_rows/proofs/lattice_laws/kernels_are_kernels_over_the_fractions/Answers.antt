use Rattle.theory_rows.proofs.FractionKernels.{fraction_kernel}
use Rattle.theory_rows.proofs.lattice_laws.kernels_are_kernels_over_the_fractions.Goals as goal

pub returns : goal.returns
returns g c = record {
  basis = λ w rows basis hr hb. fraction_kernel g.F.ProgramField.ops g.F.ProgramField.laws w rows basis hr hb;
}
