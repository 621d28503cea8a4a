use Rattle.theory_blocks.proofs.Commutative.Connected.{inverses}
use Rattle.theory_blocks.proofs.frobenius_laws.field_criterion.Goals as goal

pub returns : goal.returns
returns g c = let a = g.A.BasedAlgebra in λ E. inverses a.field E a.algebra a.dimension a.basis
