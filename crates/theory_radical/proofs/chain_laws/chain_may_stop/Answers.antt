use Rattle.theory_radical.proofs.Chain.ChainLaws.{may_stop}
use Rattle.theory_radical.proofs.chain_laws.chain_may_stop.Goals as goal

pub returns : goal.returns
returns g c = let a = g.A.LiftedAlgebra in may_stop a.prime a.lift_ring a.algebra a.dimension a.basis
