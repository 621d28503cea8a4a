use Rattle.theory_spaces.proofs.Forms.Traces.{trace_comm}
use Rattle.theory_spaces.proofs.algebra_laws.trace_of_product.Goals as goal

pub returns : goal.returns
returns g c = let a = g.A.BasedAlgebra in trace_comm a.field.cring a.algebra a.dimension a.basis
