use Rattle.theory_blocks.proofs.Commutative.ConnectedFields.{connected_field}
use Rattle.theory_blocks.proofs.frobenius_laws.connected_algebra_is_field.Goals as goal

pub returns : goal.returns
returns g c = let a = g.A.BasedAlgebra in λ E. connected_field a.field E a.algebra a.dimension a.basis
