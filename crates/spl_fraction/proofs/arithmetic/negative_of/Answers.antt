use Rattle.std.proofs.Common.{[], ◌∷◌, refl, ◌∙◌}
use Rattle.spl_field.specs.SmallField.{small_ops, small_laws}
use Rattle.theory_fractions.proofs.SumsOfFractions.{product_same}
use Rattle.theory_fractions.proofs.ProductsOfFractions.{lowest_negative}
use Rattle.spl_fraction.proofs.arithmetic.negative_of.Goals as goal

pub returns : goal.returns
returns c =
    let o = small_ops c.args.f.now in
    let u = c.in_ok-numerator.numerator in
    let r = lowest_negative o
    (small_laws c.args.f.now) c.args.a.now c.of.result c.minus_one.result u c.in_ok-denominator.denominator
    c.requires c.minus_one.ensures.value
    record { over = c.in_ok-numerator.ensures.over; trimmed = c.in_ok-numerator.ensures.trimmed }
    (product_same o (c.minus_one.result ∷ []) c.numerator.result.now (c.minus_one.result ∷ []) c.args.a.now.0 u
    refl c.numerator.ensures.value c.in_ok-numerator.ensures.value)
    (c.in_ok-denominator.ensures.value ∙ c.denominator.ensures.value) c.of.ensures in
    record { lowest = r.lowest; negative = r.negative }
