use Rattle.theory_blocks.proofs.Commutative.Lagrange.{lagrange_idempotents}
use Rattle.theory_blocks.proofs.splitting_laws.lagrange_idempotents.Goals as goal

pub returns : goal.returns
returns g c = let a = g.A.BasedAlgebra in λ E. lagrange_idempotents a.field E a.algebra
