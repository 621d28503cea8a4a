use Rattle.std.proofs.Common.{refl, ◌∙◌}
use Rattle.spl_field.specs.SmallField.{small_ops, small_laws}
use Rattle.theory_fractions.proofs.SumsOfFractions.{sum_same, product_same, lowest_sum_with_polynomial}
use Rattle.spl_fraction.proofs.arithmetic.sum_with_polynomial.Goals as goal

pub returns : goal.returns
returns c =
    let o = small_ops c.args.f.now in
    let m = c.in_ok-multiple.multiple in
    let r = lowest_sum_with_polynomial o (small_laws c.args.f.now) c.args.a.now c.args.b.now c.of.result
    m c.in_ok-numerator.numerator c.in_ok-denominator.denominator
    c.requires.left c.requires.right c.requires.polynomial c.in_ok-multiple.ensures.over
    (product_same o c.numerator.result.now c.denominator-2.result.now c.args.b.now.0 c.args.a.now.1 m
    c.numerator.ensures.value c.denominator-2.ensures.value c.in_ok-multiple.ensures.value)
    record { over = c.in_ok-numerator.ensures.over; trimmed = c.in_ok-numerator.ensures.trimmed }
    (sum_same o c.numerator-2.result.now m c.args.a.now.0 m c.in_ok-numerator.numerator c.numerator-2.ensures.value refl
    c.in_ok-numerator.ensures.value)
    (c.in_ok-denominator.ensures.value ∙ c.denominator-3.ensures.value) c.of.ensures in
    record { lowest = r.lowest; sum = r.sum }
