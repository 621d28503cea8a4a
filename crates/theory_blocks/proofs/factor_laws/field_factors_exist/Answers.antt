use Rattle.theory_blocks.proofs.Commutative.FieldFactors.{field_factors}
use Rattle.theory_blocks.proofs.factor_laws.field_factors_exist.Goals as goal

pub returns : goal.returns
returns g c = let a = g.S.AlgebraSubset in λ E. field_factors a.field E a.algebra a.dimension a.basis a.Subset
