use Rattle.spl_field.specs.SmallField.{small_ops, small_laws}
use Rattle.theory_fractions.proofs.SumsOfFractions.{product_same, denominators_nonzero}
use Rattle.theory_fractions.proofs.ProductsOfFractions.{reduced_product}
use Rattle.spl_fraction.proofs.arithmetic.product_of_fractions.Goals as goal

pub reduced-requires-clause-den_nonzero : goal.reduced-requires-clause-den_nonzero
reduced-requires-clause-den_nonzero c =
    let o = small_ops c.args.f.now in
    let v = c.in_ok-denominator.denominator in
    denominators_nonzero o (small_laws c.args.f.now) c.args.a.now c.args.b.now c.requires.left c.requires.right v
    record { over = c.in_ok-denominator.ensures.over; trimmed = c.in_ok-denominator.ensures.trimmed }
    (product_same o c.denominator.result.now c.denominator-2.result.now c.args.a.now.1 c.args.b.now.1 v
    c.denominator.ensures.value c.denominator-2.ensures.value c.in_ok-denominator.ensures.value)

pub returns-clause-product : goal.returns-clause-product
returns-clause-product c =
    let o = small_ops c.args.f.now in
    let u = c.in_ok-numerator.numerator in
    let v = c.in_ok-denominator.denominator in
    reduced_product o (small_laws c.args.f.now) c.args.a.now c.args.b.now c.requires.left c.requires.right u v
    record { over = c.in_ok-numerator.ensures.over; trimmed = c.in_ok-numerator.ensures.trimmed }
    record { over = c.in_ok-denominator.ensures.over; trimmed = c.in_ok-denominator.ensures.trimmed }
    (product_same o c.numerator.result.now c.numerator-2.result.now c.args.a.now.0 c.args.b.now.0 u
    c.numerator.ensures.value c.numerator-2.ensures.value c.in_ok-numerator.ensures.value)
    (product_same o c.denominator.result.now c.denominator-2.result.now c.args.a.now.1 c.args.b.now.1 v
    c.denominator.ensures.value c.denominator-2.ensures.value c.in_ok-denominator.ensures.value)
    c.in_ok-reduced.field-0 c.in_ok-reduced.ensures.lowest c.in_ok-reduced.ensures.value
