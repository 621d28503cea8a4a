use Rattle.theory_blocks.proofs.Commutative.ZeroDivisors.{zero_divisors}
use Rattle.theory_blocks.proofs.splitting_laws.zero_divisors.Goals as goal

pub returns : goal.returns
returns g c = let a = g.A.BasedAlgebra in λ E. zero_divisors a.field E a.algebra a.dimension a.basis
