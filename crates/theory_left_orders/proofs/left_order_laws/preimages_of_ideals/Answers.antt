use Rattle.theory_left_orders.proofs.ResidueAlgebras.{residue_product_is_algebra, order_reduces_over}
use Rattle.theory_left_orders.proofs.ResidueAlgebras.{preimages_of_ideals}
use Rattle.theory_left_orders.proofs.left_order_laws.preimages_of_ideals.Goals as goal

pub returns-clause-algebra : goal.returns-clause-algebra
returns-clause-algebra g c =
    let a = g.A.ResidueRingAlgebra in
    residue_product_is_algebra a.field a.Weight a.p a.q a.residue_field a.residue a.algebra a.dimension a.basis
    a.Reduced

pub returns-clause-reduces : goal.returns-clause-reduces
returns-clause-reduces g c =
    let a = g.A.ResidueRingAlgebra in
    order_reduces_over a.field a.Weight a.p a.q a.residue_field a.residue a.algebra a.dimension a.basis a.Reduced

pub returns-clause-preimages : goal.returns-clause-preimages
returns-clause-preimages g c =
    let a = g.A.ResidueRingAlgebra in
    preimages_of_ideals a.field a.Weight a.p a.q a.residue_field a.residue a.algebra a.dimension a.basis a.Reduced
