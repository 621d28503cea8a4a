use Rattle.theory_blocks.proofs.TwoSided.TwoSidedRows.{rank_by_rows}
use Rattle.theory_blocks.proofs.rank_laws.rank_by_rows.Goals as goal

pub returns : goal.returns
returns g c = let a = g.A.BasedAlgebra in rank_by_rows a.field a.algebra a.dimension a.basis
