use Rattle.theory_blocks.proofs.Ideals.Centres.{centre_subalgebra}
use Rattle.theory_blocks.proofs.maximal_laws.centre_is_subalgebra.Goals as goal

pub returns : goal.returns
returns g c = let a = g.A.BasedAlgebra in centre_subalgebra a.algebra
