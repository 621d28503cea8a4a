use Rattle.theory_pairs.proofs.CornerIdeals.{corner_central_simple}
use Rattle.theory_pairs.proofs.corner_laws.corner_is_central_simple.Goals as goal

pub returns : goal.returns
returns g c = λ simple nonzero. let a = g.C.CornerOfAlgebra in
    corner_central_simple a.field a.algebra a.dimension a.basis a.idempotent a.squared nonzero simple a.corner
    a.inclusion a.is_corner
