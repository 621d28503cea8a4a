use Rattle.std.proofs.Common.{◌∙◌}
use Rattle.spl_field.specs.SmallField.{small_ops, small_laws}
use Rattle.theory_fractions.proofs.SumsOfFractions.{product_same}
use Rattle.theory_fractions.proofs.ProductsOfFractions.{lowest_product_with_constant}
use Rattle.spl_fraction.proofs.arithmetic.product_with_constant.Goals as goal

pub returns : goal.returns
returns c =
    let o = small_ops c.args.f.now in
    let u = c.in_ok-numerator.numerator in
    let r = lowest_product_with_constant o
    (small_laws c.args.f.now) c.args.a.now c.args.b.now c.of.result u c.in_ok-denominator.denominator
    c.requires.left c.requires.right c.requires.numerator c.requires.denominator
    record { over = c.in_ok-numerator.ensures.over; trimmed = c.in_ok-numerator.ensures.trimmed }
    (product_same o c.numerator.result.now c.numerator-2.result.now c.args.a.now.0 c.args.b.now.0 u
    c.numerator.ensures.value c.numerator-2.ensures.value c.in_ok-numerator.ensures.value)
    (c.in_ok-denominator.ensures.value ∙ c.denominator.ensures.value) c.of.ensures in
    record { lowest = r.lowest; product = r.product }
