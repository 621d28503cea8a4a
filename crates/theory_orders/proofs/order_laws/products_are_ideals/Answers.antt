use Rattle.theory_orders.proofs.LeftOrder.LeftOrders.{Products_ideal, Power_ideal}
use Rattle.theory_orders.proofs.order_laws.products_are_ideals.Goals as goal

pub returns-clause-product : goal.returns-clause-product
returns-clause-product g c = let i = g.I.TwoIdeals in
    Products_ideal i.algebra i.Order i.order i.Left i.Right i.left i.right

pub returns-clause-power : goal.returns-clause-power
returns-clause-power g c = let i = g.I.TwoIdeals in Power_ideal i.algebra i.Order i.order i.Left i.left
