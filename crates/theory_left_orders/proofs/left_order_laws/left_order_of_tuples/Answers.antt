use Rattle.theory_left_orders.proofs.TupleLeftOrders.{left_order_of_tuples, left_orders_are_orders}
use Rattle.theory_left_orders.proofs.left_order_laws.left_order_of_tuples.Goals as goal

pub returns-clause-order : goal.returns-clause-order
returns-clause-order g c =
    let t = g.T.TupleResidueRing in
    left_orders_are_orders t.ops t.laws t.Weight t.p t.q t.residue_ops t.residue_laws t.residue

pub returns-clause-lattice : goal.returns-clause-lattice
returns-clause-lattice g c =
    let t = g.T.TupleResidueRing in
    left_order_of_tuples t.ops t.laws t.Weight t.p t.q t.residue_ops t.residue_laws t.residue
