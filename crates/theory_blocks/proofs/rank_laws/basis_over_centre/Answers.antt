use Rattle.theory_blocks.proofs.TwoSided.TwoSidedBases.{basis_over_centre}
use Rattle.theory_blocks.proofs.rank_laws.basis_over_centre.Goals as goal

pub returns : goal.returns
returns g c = let a = g.A.BasedAlgebra in λ z. basis_over_centre a.field a.algebra a.dimension a.basis z
