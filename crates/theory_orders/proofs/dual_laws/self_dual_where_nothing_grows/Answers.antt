use Rattle.theory_orders.proofs.LeftOrder.Settled.{self_dual, self_dual_or_ramified, unit_of_characteristic}
use Rattle.theory_orders.proofs.dual_laws.self_dual_where_nothing_grows.Goals as goal

pub returns-clause-simple : goal.returns-clause-simple
returns-clause-simple g c = λ unit v D S.
    let a = g.A.PlacedAlgebra in
    self_dual a.field a.valuation a.p a.q a.uniformizer a.algebra a.dimension a.basis v D S unit

pub returns-clause-settled : goal.returns-clause-settled
returns-clause-settled g c = λ unit ct v D ng w free R proper.
    let a = g.A.PlacedAlgebra in
    self_dual_or_ramified a.field a.valuation a.p a.q a.uniformizer a.algebra a.dimension a.basis v D ct ng unit w free
    R proper

pub returns-clause-characteristic : goal.returns-clause-characteristic
returns-clause-characteristic g c = λ k prime char out. let a = g.A.PlacedAlgebra in
    unit_of_characteristic a.field a.valuation k prime char a.dimension out
