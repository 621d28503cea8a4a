use Rattle.theory_blocks.proofs.Ideals.Semiprime.{centre_is_reduced}
use Rattle.theory_blocks.proofs.maximal_laws.centre_is_reduced.Goals as goal

pub returns : goal.returns
returns g c = let a = g.A.BasedAlgebra in centre_is_reduced a.field a.algebra a.dimension a.basis
