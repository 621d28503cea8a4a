use Rattle.theory_spaces.proofs.Matrices.Matrices.{mat_trace_comm}
use Rattle.theory_spaces.proofs.algebra_laws.trace_of_matrix_product.Goals as goal

pub returns : goal.returns
returns g c = mat_trace_comm g.S.Scalars.ring
