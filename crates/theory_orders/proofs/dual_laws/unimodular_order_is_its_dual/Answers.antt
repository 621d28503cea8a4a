use Rattle.theory_orders.proofs.Lattices.Dual.{self_dual_of_unimodular}
use Rattle.theory_orders.proofs.dual_laws.unimodular_order_is_its_dual.Goals as goal

pub returns : goal.returns
returns g c = let a = g.A.PlacedAlgebra in self_dual_of_unimodular a.field a.valuation a.algebra a.dimension a.basis
