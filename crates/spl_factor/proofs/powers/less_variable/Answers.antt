use Rattle.spl_factor.proofs.Values.{less_variable_value, linear_over}
use Rattle.spl_field.specs.SmallField.{small_ops}
use Rattle.spl_factor.proofs.powers.less_variable.Goals as goal

pub returns-clause-value : goal.returns-clause-value
returns-clause-value c =
    let y = c.in_ok-minus_x in
    let r = c.in_ok-add in
    less_variable_value c.args.f.now c.args.a.now y.minus_x r.field-0 c.negative.result c.requires
    record { over = r.ensures.over; trimmed = r.ensures.trimmed }
    (y.ensures.over (small_ops c.args.f.now)
    (linear_over c.args.f.now c.negative.result c.negative.ensures.elem)) y.ensures.value c.negative.ensures.same
    r.ensures.value
