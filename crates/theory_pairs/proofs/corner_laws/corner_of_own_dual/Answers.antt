use Rattle.theory_pairs.proofs.CornerDuals.{corner_own_dual}
use Rattle.theory_pairs.proofs.corner_laws.corner_of_own_dual.Goals as goal

pub returns : goal.returns
returns g c = λ comm closed le own.
    let a = g.C.CornerWithLattice in
    corner_own_dual a.algebra a.idempotent a.squared a.Lattice closed le a.trace a.Weight comm own a.corner a.inclusion
    a.is_corner
