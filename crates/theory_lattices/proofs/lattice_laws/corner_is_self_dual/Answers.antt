use Rattle.theory_spaces.proofs.Algebras.Corners.{corner_dual}
use Rattle.theory_lattices.proofs.lattice_laws.corner_is_self_dual.Goals as goal

pub returns : goal.returns
returns g c = let e = g.E.IdempotentWithLattice in
    corner_dual e.algebra e.idempotent e.squared e.trace e.Weight e.Lattice
