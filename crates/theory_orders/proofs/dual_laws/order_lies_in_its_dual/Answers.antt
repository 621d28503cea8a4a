use Rattle.theory_orders.proofs.Lattices.Dual.{in_dual}
use Rattle.theory_orders.proofs.dual_laws.order_lies_in_its_dual.Goals as goal

pub returns : goal.returns
returns g c = let a = g.A.PlacedAlgebra in in_dual a.field a.valuation a.algebra a.dimension a.basis
