use Rattle.spl_field.specs.SmallField.{small_ops, small_laws}
use Rattle.theory_fractions.proofs.SumsOfFractions.{sum_same, lowest_sum_of_polynomials}
use Rattle.spl_fraction.proofs.arithmetic.sum_of_polynomials.Goals as goal

pub returns : goal.returns
returns c =
    let o = small_ops c.args.f.now in
    let r = lowest_sum_of_polynomials o
    (small_laws c.args.f.now) c.args.a.now c.args.b.now c.of.result c.in_ok-numerator.numerator c.in_ok-one.one
    c.requires.left c.requires.right c.requires.left_polynomial c.requires.right_polynomial
    record { over = c.in_ok-numerator.ensures.over; trimmed = c.in_ok-numerator.ensures.trimmed }
    (sum_same o c.numerator.result.now c.numerator-2.result.now c.args.a.now.0 c.args.b.now.0
    c.in_ok-numerator.numerator
    c.numerator.ensures.value c.numerator-2.ensures.value c.in_ok-numerator.ensures.value)
    c.in_ok-one.ensures c.of.ensures in
    record { lowest = r.lowest; sum = r.sum }
