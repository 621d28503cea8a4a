use Rattle.theory_blocks.proofs.Commutative.FieldFactorsSolutions.{solutions_power_of_field}
use Rattle.theory_blocks.proofs.factor_laws.solutions_are_a_power_of_the_field.Goals as goal

pub returns : goal.returns
returns g c = let a = g.A.BasedAlgebra in λ E. solutions_power_of_field a.field E a.algebra a.dimension a.basis
