use Rattle.theory_radical.proofs.Chain.AlgebraChain.{chain_ideal}
use Rattle.theory_radical.proofs.chain_laws.chain_of_ideals.Goals as goal

pub returns : goal.returns
returns g c = let a = g.A.LiftedAlgebra in chain_ideal a.prime a.lift_ring a.algebra a.dimension a.basis
