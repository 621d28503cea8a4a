use Rattle.theory_radical.proofs.Chain.ChainEnd.{special_traces}
use Rattle.theory_radical.proofs.chain_laws.traces_of_nilpotents_and_idempotents.Goals as goal

pub returns : goal.returns
returns g c = let a = g.A.LiftedAlgebra in special_traces a.prime a.lift_ring a.algebra a.dimension a.basis
