use Rattle.spl_field.specs.SmallField.{small_ops, small_laws}
use Rattle.theory_fractions.proofs.SumsOfFractions.{product_same, denominators_nonzero, reduced_sum}
use Rattle.spl_fraction.proofs.arithmetic.sum_of_fractions.Goals as goal

pub reduced-requires-clause-den_nonzero : goal.reduced-requires-clause-den_nonzero
reduced-requires-clause-den_nonzero c =
    let o = small_ops c.args.f.now in
    let v = c.in_ok-denominator.denominator in
    denominators_nonzero o (small_laws c.args.f.now) c.args.a.now c.args.b.now c.requires.left c.requires.right v
    record { over = c.in_ok-denominator.ensures.over; trimmed = c.in_ok-denominator.ensures.trimmed }
    (product_same o c.denominator-3.result.now c.denominator-4.result.now c.args.a.now.1 c.args.b.now.1 v
    c.denominator-3.ensures.value c.denominator-4.ensures.value c.in_ok-denominator.ensures.value)

pub returns-clause-sum : goal.returns-clause-sum
returns-clause-sum c =
    let o = small_ops c.args.f.now in
    let v = c.in_ok-denominator.denominator in
    reduced_sum o (small_laws c.args.f.now) c.args.a.now c.args.b.now c.requires.left c.requires.right
    c.in_ok-left.left c.in_ok-right.right c.in_ok-numerator.numerator v
    c.in_ok-left.ensures.over c.in_ok-right.ensures.over c.in_ok-numerator.ensures.over
    record { over = c.in_ok-denominator.ensures.over; trimmed = c.in_ok-denominator.ensures.trimmed }
    (product_same o c.numerator.result.now c.denominator.result.now c.args.a.now.0 c.args.b.now.1 c.in_ok-left.left
    c.numerator.ensures.value c.denominator.ensures.value c.in_ok-left.ensures.value)
    (product_same o c.numerator-2.result.now c.denominator-2.result.now c.args.b.now.0 c.args.a.now.1
    c.in_ok-right.right
    c.numerator-2.ensures.value c.denominator-2.ensures.value c.in_ok-right.ensures.value)
    c.in_ok-numerator.ensures.value
    (product_same o c.denominator-3.result.now c.denominator-4.result.now c.args.a.now.1 c.args.b.now.1 v
    c.denominator-3.ensures.value c.denominator-4.ensures.value c.in_ok-denominator.ensures.value)
    c.in_ok-reduced.field-0 c.in_ok-reduced.ensures.lowest c.in_ok-reduced.ensures.value
