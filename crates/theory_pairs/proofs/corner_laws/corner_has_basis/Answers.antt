use Rattle.theory_pairs.proofs.CornerAlgebras.{corner_basis}
use Rattle.theory_pairs.proofs.corner_laws.corner_has_basis.Goals as goal

pub returns : goal.returns
returns g c = let a = g.C.CornerOfAlgebra in
    corner_basis a.field a.algebra a.dimension a.basis a.idempotent a.squared a.corner a.inclusion a.is_corner
