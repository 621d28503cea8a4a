use Rattle.theory_spaces.proofs.Algebras.Corners.{corner_centre}
use Rattle.theory_lattices.proofs.lattice_laws.centre_of_corner.Goals as goal

pub returns : goal.returns
returns g c = let e = g.E.IdempotentWithLattice in corner_centre e.algebra e.idempotent e.squared
