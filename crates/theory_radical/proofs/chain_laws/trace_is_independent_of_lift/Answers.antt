use Rattle.theory_radical.proofs.Chain.ChainLaws.{independent_of_lift}
use Rattle.theory_radical.proofs.chain_laws.trace_is_independent_of_lift.Goals as goal

pub returns : goal.returns
returns g c = let a = g.A.LiftedAlgebra in independent_of_lift a.prime a.lift_ring a.algebra a.dimension a.basis
