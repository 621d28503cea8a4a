use Rattle.theory_orders.proofs.Ideals.OnlyMaximal.{ramified_radical}
use Rattle.theory_orders.proofs.ramified_laws.radical_of_ramified_place.Goals as goal

pub returns : goal.returns
returns g c = λ v w R.
    let a = g.A.PlacedAlgebra in
    ramified_radical a.field a.valuation a.p a.q a.uniformizer a.algebra a.dimension a.basis v R.order w R
