use Rattle.theory_orders.proofs.LeftOrder.MaximalOrders.{maximal_order}
use Rattle.theory_orders.proofs.ramified_laws.ramified_order_is_maximal.Goals as goal

pub returns : goal.returns
returns g c = let a = g.A.PlacedAlgebra in
    maximal_order a.field a.valuation a.p a.q a.uniformizer a.algebra a.dimension a.basis
