use Rattle.std.proofs.Common.{◌∙◌, ap}
use Rattle.spl_field.specs.SmallField.{small_ops}
use Rattle.spl_poly.specs.Operations.{without_zeros}
use Rattle.spl_fraction.specs.Valuation.{reversed}
use Rattle.spl_fraction.proofs.Swaps.{reversed-nonzero, swapped-value}
use Rattle.spl_fraction.proofs.swap.swapped.Goals as goal

pub reduced-requires-clause-den_nonzero : goal.reduced-requires-clause-den_nonzero
reduced-requires-clause-den_nonzero c =
    let n = c.size_of-size.result in
    let d = c.in_ok-denominator in
    let v = c.denominator in
    reversed-nonzero c.args.f.now c.args.a.now n d.denominator c.requires c.size_of-size.ensures.denominator
    (d.ensures.value ∙ ap (λ x. without_zeros (reversed (small_ops c.args.f.now) n x)) v.ensures.value)

pub returns-clause-value : goal.returns-clause-value
returns-clause-value c =
    let n = c.size_of-size.result in
    let u = c.in_ok-numerator in
    let v = c.in_ok-denominator in
    let r = c.in_ok-reduced in
    swapped-value c.args.f.now c.args.a.now r.field-0 n u.numerator v.denominator c.size_of-size.ensures.numerator
    c.size_of-size.ensures.denominator
    (u.ensures.value ∙ ap (λ x. without_zeros (reversed (small_ops c.args.f.now) n x)) c.numerator.ensures.value)
    (v.ensures.value ∙ ap (λ x. without_zeros (reversed (small_ops c.args.f.now) n x)) c.denominator.ensures.value)
    r.ensures.value
