use Rattle.theory_pairs.proofs.OrderLattices.{first_order_at}
use Rattle.theory_pairs.proofs.order_laws.first_order_at_a_place.Goals as goal

pub returns : goal.returns
returns g c = λ d nonzero integral.
    let a = g.A.PlacedAlgebra in first_order_at a.field a.valuation a.algebra a.dimension a.basis d nonzero integral
