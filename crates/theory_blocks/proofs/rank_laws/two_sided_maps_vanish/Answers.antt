use Rattle.theory_blocks.proofs.TwoSided.TwoSidedMaps.{two_sided_maps_vanish}
use Rattle.theory_blocks.proofs.rank_laws.two_sided_maps_vanish.Goals as goal

pub returns : goal.returns
returns g c = let a = g.A.BasedAlgebra in λ simple. two_sided_maps_vanish a.field a.algebra a.dimension a.basis simple
