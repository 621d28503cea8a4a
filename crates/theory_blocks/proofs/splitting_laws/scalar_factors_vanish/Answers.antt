use Rattle.theory_blocks.proofs.Ideals.Annihilation.{scalar_factors}
use Rattle.theory_blocks.proofs.splitting_laws.scalar_factors_vanish.Goals as goal

pub returns : goal.returns
returns g c = let a = g.A.BasedAlgebra in λ E. scalar_factors a.field E a.algebra
