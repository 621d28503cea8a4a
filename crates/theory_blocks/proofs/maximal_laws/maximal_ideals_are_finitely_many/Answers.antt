use Rattle.theory_blocks.proofs.Ideals.MaximalIdealsFinite.{maximal_ideals_are_finitely_many}
use Rattle.theory_blocks.proofs.maximal_laws.maximal_ideals_are_finitely_many.Goals as goal

pub returns : goal.returns
returns g c = let a = g.A.BasedAlgebra in λ E. maximal_ideals_are_finitely_many a.field E a.algebra a.dimension a.basis
