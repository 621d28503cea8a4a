use Rattle.theory_orders.proofs.SomeMaximal.{some_is_only, radical_is_the_only, nothing_grows_by_list}
use Rattle.theory_orders.proofs.maximal_ideal_laws.a_maximal_ideal_exists.Goals as goal

pub returns-clause-some : goal.returns-clause-some
returns-clause-some g c = λ strict nonzero ct.
    let a = g.A.PlacedAlgebra in
    some_is_only a.field a.valuation a.p a.q a.uniformizer a.algebra a.dimension a.basis strict nonzero ct

pub returns-clause-radical : goal.returns-clause-radical
returns-clause-radical g c = λ strict nonzero ct.
    let a = g.A.PlacedAlgebra in
    radical_is_the_only a.field a.valuation a.p a.q a.uniformizer a.algebra a.dimension a.basis strict nonzero ct

pub returns-clause-listed : goal.returns-clause-listed
returns-clause-listed g c =
    let a = g.A.PlacedAlgebra in
    nothing_grows_by_list a.field a.valuation a.p a.q a.uniformizer a.algebra a.dimension a.basis
