use Rattle.theory_blocks.proofs.Commutative.FieldFactorsUnique.{factors_are_unique}
use Rattle.theory_blocks.proofs.factor_laws.factor_count_is_unique.Goals as goal

pub returns : goal.returns
returns g c = let a = g.S.AlgebraSubset in factors_are_unique a.field a.algebra a.dimension a.basis a.Subset
