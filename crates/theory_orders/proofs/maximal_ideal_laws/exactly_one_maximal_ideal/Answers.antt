use Rattle.theory_orders.proofs.Ideals.OnlyMaximal.{exactly_one, radical_is_one, one_in_family}
use Rattle.theory_orders.proofs.maximal_ideal_laws.exactly_one_maximal_ideal.Goals as goal

pub returns-clause-each : goal.returns-clause-each
returns-clause-each g c = λ ct v D. let a = g.A.PlacedAlgebra in
    exactly_one a.field a.valuation a.p a.q a.uniformizer a.algebra a.dimension a.basis v D ct

pub returns-clause-radical : goal.returns-clause-radical
returns-clause-radical g c = λ ct v D. let a = g.A.PlacedAlgebra in
    radical_is_one a.field a.valuation a.p a.q a.uniformizer a.algebra a.dimension a.basis v D ct

pub returns-clause-family : goal.returns-clause-family
returns-clause-family g c = λ ct v D. let a = g.A.PlacedAlgebra in
    one_in_family a.field a.valuation a.p a.q a.uniformizer a.algebra a.dimension a.basis v D ct
