use Rattle.theory_spaces.proofs.Forms.Traces.{trace-nilpotent}
use Rattle.theory_spaces.proofs.algebra_laws.trace_of_nilpotent.Goals as goal

pub returns : goal.returns
returns g c = let a = g.A.BasedAlgebra in trace-nilpotent a.field a.algebra a.dimension a.basis
