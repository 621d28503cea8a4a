use Rattle.theory_left_orders.proofs.LeftOrders.{left_order_by_kernel}
use Rattle.theory_left_orders.proofs.left_order_laws.left_order_by_kernel.Goals as goal

pub returns : goal.returns
returns g c =
    let a = g.A.ResidueRingAlgebra in
    left_order_by_kernel a.field a.Weight a.p a.q a.residue_field a.residue a.algebra a.dimension a.basis
