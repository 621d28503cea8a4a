use Rattle.theory_pairs.proofs.FirstOrders as orders
use Rattle.theory_pairs.proofs.order_laws.first_order.Goals as goal

pub returns-clause-order : goal.returns-clause-order
returns-clause-order g c = λ d integral.
    let a = g.A.AlgebraWithTable in
    orders.first_order a.field a.algebra a.size a.vec a.constants a.products a.Weight a.subring d integral

pub returns-clause-members : goal.returns-clause-members
returns-clause-members g c = λ d integral.
    let a = g.A.AlgebraWithTable in
    orders.first_order-member a.field a.algebra a.size a.vec a.constants a.products a.Weight a.subring d integral
