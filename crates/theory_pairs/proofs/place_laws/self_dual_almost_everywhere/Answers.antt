use Rattle.theory_pairs.proofs.Denominators.{self_dual_outside}
use Rattle.theory_pairs.proofs.place_laws.self_dual_almost_everywhere.Goals as goal

pub returns : goal.returns
returns g c = λ non v.
    let a = g.A.AlgebraOverFractions in
    self_dual_outside a.field a.Weight a.subring a.fractions a.algebra a.dimension a.basis non v
