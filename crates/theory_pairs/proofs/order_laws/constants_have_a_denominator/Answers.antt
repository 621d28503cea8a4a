use Rattle.theory_pairs.proofs.Denominators.{table_denominator}
use Rattle.theory_pairs.proofs.order_laws.constants_have_a_denominator.Goals as goal

pub returns : goal.returns
returns g c = λ constants.
    let a = g.A.AlgebraOverFractions in
    table_denominator a.field a.Weight a.subring a.fractions a.dimension constants
