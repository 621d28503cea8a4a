use Rattle.theory_orders.proofs.Lattices.DualLattices.{double_dual, dual_shrinks, growth_by_two}
use Rattle.theory_orders.proofs.LeftOrder.Lengths.{length_bounded}
use Rattle.theory_orders.proofs.dual_laws.growth_shrinks_the_dual.Goals as goal

pub returns-clause-double : goal.returns-clause-double
returns-clause-double g c = λ non v ind. let a = g.A.PlacedAlgebra in
    double_dual a.field a.valuation a.algebra a.dimension a.basis non v ind

pub returns-clause-shrinks : goal.returns-clause-shrinks
returns-clause-shrinks g c = λ non. let a = g.A.PlacedAlgebra in
    dual_shrinks a.field a.valuation a.algebra a.dimension a.basis non

pub returns-clause-by_two : goal.returns-clause-by_two
returns-clause-by_two g c = λ non. let a = g.A.PlacedAlgebra in
    growth_by_two a.field a.valuation a.algebra a.dimension a.basis non

pub returns-clause-bounded : goal.returns-clause-bounded
returns-clause-bounded g c = λ non. let a = g.A.PlacedAlgebra in
    length_bounded a.field a.valuation a.p a.q a.uniformizer a.algebra a.dimension a.basis non
