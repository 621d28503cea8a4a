use Rattle.theory_blocks.proofs.Ideals.MaximalIdeals.{maximal_ideals_by_factors}
use Rattle.theory_blocks.proofs.maximal_laws.maximal_ideals_by_factors.Goals as goal

pub returns : goal.returns
returns g c = let a = g.A.BasedAlgebra in maximal_ideals_by_factors a.field a.algebra a.dimension a.basis
