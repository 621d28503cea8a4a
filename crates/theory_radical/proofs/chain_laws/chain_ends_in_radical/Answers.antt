use Rattle.theory_radical.proofs.Chain.ChainLaws.{ends_in_radical}
use Rattle.theory_radical.proofs.chain_laws.chain_ends_in_radical.Goals as goal

pub returns : goal.returns
returns g c = let a = g.A.LiftedAlgebra in ends_in_radical a.prime a.lift_ring a.algebra a.dimension a.basis
