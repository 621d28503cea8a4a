use Rattle.theory_orders.proofs.LeftOrderOver.{left_order_over}
use Rattle.theory_orders.proofs.order_laws.left_order_over_is_an_order_at_the_place.Goals as goal

pub returns : goal.returns
returns g c = λ v D m w I over.
    let a = g.A.PlacedAlgebra in
    left_order_over a.field a.valuation a.p a.q a.uniformizer a.algebra a.dimension a.basis v D m w I over
