use Rattle.theory_radical.proofs.Chain.ChainEnd.{chain_holds}
use Rattle.theory_radical.proofs.chain_laws.chain_holds_nilpotent_ideals.Goals as goal

pub returns : goal.returns
returns g c = let a = g.A.LiftedAlgebra in chain_holds a.prime a.lift_ring a.algebra a.dimension a.basis a.Subset
