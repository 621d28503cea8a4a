use Rattle.theory_lattices.proofs.Duals.SelfDualOrders.{middle_of_orders}
use Rattle.theory_lattices.proofs.rational_laws.self_dual_orders.Goals as goal

pub returns : goal.returns
returns g c =
    let o = g.O.RationalOrders in
    middle_of_orders o.constants o.members o.field o.fractions o.degree o.rational_degree o.algebra o.size o.finite
    o.infinite
    o.finite_free o.infinite_free o.infinite_spans o.trace o.pair
