use Rattle.spl_factor.proofs.Values.{less_constant_value, constant_over}
use Rattle.spl_field.specs.SmallField.{small_ops}
use Rattle.spl_factor.proofs.powers.less_constant.Goals as goal

pub returns-clause-value : goal.returns-clause-value
returns-clause-value c =
    let y = c.in_ok-minus_c in
    let r = c.in_ok-add in
    less_constant_value c.args.f.now c.args.a.now y.minus_c r.field-0 c.args.c c.negative.result c.requires.polynomial
    record { over = r.ensures.over; trimmed = r.ensures.trimmed } c.requires.elem
    (y.ensures.over (small_ops c.args.f.now)
    (constant_over c.args.f.now c.negative.result c.negative.ensures.elem)) y.ensures.value
    c.negative.ensures.same r.ensures.value
