use Rattle.theory_radical.proofs.Chain.ChainLaws.{next_is_kernel}
use Rattle.theory_radical.proofs.chain_laws.next_ideal_is_kernel.Goals as goal

pub returns : goal.returns
returns g c = let a = g.A.LiftedAlgebra in next_is_kernel a.prime a.lift_ring a.algebra a.dimension a.basis
