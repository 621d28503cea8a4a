use Rattle.theory_blocks.proofs.Commutative.SplitIdempotents.{split_idempotent}
use Rattle.theory_blocks.proofs.splitting_laws.split_idempotent.Goals as goal

pub returns : goal.returns
returns g c = let a = g.A.BasedAlgebra in λ E. split_idempotent a.field E a.algebra a.dimension a.basis
