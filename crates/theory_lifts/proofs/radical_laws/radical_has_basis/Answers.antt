use Rattle.theory_lifts.proofs.RadicalSpan.{chain_bases, radical_basis}
use Rattle.theory_lifts.proofs.radical_laws.radical_has_basis.Goals as goal

pub returns-clause-chain : goal.returns-clause-chain
returns-clause-chain g c = λ roots. let a = g.A.LiftedAlgebra in
    chain_bases a.prime a.lift_ring a.algebra a.dimension a.basis roots

pub returns-clause-radical : goal.returns-clause-radical
returns-clause-radical g c = λ roots l. let a = g.A.LiftedAlgebra in
    radical_basis a.prime a.lift_ring a.algebra a.dimension a.basis roots l
