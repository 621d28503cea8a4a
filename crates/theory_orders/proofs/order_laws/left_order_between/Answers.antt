use Rattle.theory_orders.proofs.LeftOrder.LeftOrders.{left_order_is_order, in_left_order, left_order_bounded}
use Rattle.theory_orders.proofs.order_laws.left_order_between.Goals as goal

pub returns-clause-order : goal.returns-clause-order
returns-clause-order g c = let i = g.I.TwoIdeals in left_order_is_order i.algebra i.Order i.order i.Left i.left

pub returns-clause-above : goal.returns-clause-above
returns-clause-above g c = let i = g.I.TwoIdeals in in_left_order i.algebra i.Order i.order i.Left i.left

pub returns-clause-below : goal.returns-clause-below
returns-clause-below g c = let i = g.I.TwoIdeals in left_order_bounded i.algebra i.Order i.order i.Left i.left
