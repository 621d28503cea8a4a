use Rattle.theory_spaces.proofs.Algebras.Corners.{corner_centre}
use Rattle.theory_spaces.proofs.Algebras.MinimalIdempotents.{one_through}
use Rattle.theory_lattices.proofs.lattice_laws.centre_of_simple_corner.Goals as goal

pub returns : goal.returns
returns g c = λ simple e idem nonzero.
    let a = g.A.BasedAlgebra in
    let o = one_through a.algebra a.dimension a.basis e simple.simple nonzero in
    corner_centre a.algebra e idem o.size o.left o.right o.sums simple.central
