use Rattle.theory_blocks.proofs.Commutative.FieldFactorsSolutions.{fixed_points_by_factors}
use Rattle.theory_blocks.proofs.factor_laws.fixed_points_by_factors.Goals as goal

pub returns : goal.returns
returns g c = let a = g.S.AlgebraSubset in λ E. fixed_points_by_factors a.field E a.algebra a.dimension a.basis a.Subset
