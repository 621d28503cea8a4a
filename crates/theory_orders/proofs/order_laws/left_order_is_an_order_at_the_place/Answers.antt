use Rattle.theory_orders.specs.Lattices.{Lattice}
use Rattle.theory_orders.proofs.LeftOrder.LeftOrderLattice.{left_order_at}
use Rattle.theory_orders.proofs.order_laws.left_order_is_an_order_at_the_place.Goals as goal

pub returns : goal.returns
returns g c = λ non v w D ind I.
    let a = g.A.PlacedAlgebra in
    left_order_at a.field a.valuation a.algebra a.dimension a.basis non w ind
    (Lattice a.field a.valuation a.algebra a.dimension v) D.order I
