use Rattle.theory_orders.proofs.Splitting.Ramified.{not_isomorphic}
use Rattle.theory_orders.proofs.ramified_laws.ramified_excludes_isomorphism.Goals as goal

pub returns : goal.returns
returns g c = λ v w R.
    let a = g.A.PlacedAlgebra in
    not_isomorphic a.field a.algebra a.dimension a.basis a.valuation a.p v w R a.q a.uniformizer
