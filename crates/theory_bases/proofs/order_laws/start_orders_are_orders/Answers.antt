use Rattle.theory_bases.proofs.StartOrders.{start_orders}
use Rattle.theory_bases.proofs.order_laws.start_orders_are_orders.Goals as goal

pub returns : goal.returns
returns g c = start_orders g.F.ProgramField.ops g.F.ProgramField.laws
