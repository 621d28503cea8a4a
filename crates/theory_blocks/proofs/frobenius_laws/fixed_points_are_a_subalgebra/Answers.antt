use Rattle.theory_blocks.proofs.Commutative.FixedPoints.{fixed_points}
use Rattle.theory_blocks.proofs.frobenius_laws.fixed_points_are_a_subalgebra.Goals as goal

pub returns : goal.returns
returns g c = let a = g.A.BasedAlgebra in λ E. fixed_points a.field E a.algebra
