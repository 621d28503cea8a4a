use Rattle.theory_radical.proofs.Chain.ChainLaws.{additive_on_chain}
use Rattle.theory_radical.proofs.chain_laws.trace_is_additive_on_chain.Goals as goal

pub returns : goal.returns
returns g c = let a = g.A.LiftedAlgebra in additive_on_chain a.prime a.lift_ring a.algebra a.dimension a.basis
