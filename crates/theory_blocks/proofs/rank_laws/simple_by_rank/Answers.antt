use Rattle.theory_blocks.proofs.TwoSided.TwoSidedRank.{simple_by_rank}
use Rattle.theory_blocks.proofs.rank_laws.simple_by_rank.Goals as goal

pub returns : goal.returns
returns g c = let a = g.A.BasedAlgebra in λ z. simple_by_rank a.field a.algebra a.dimension a.basis z
