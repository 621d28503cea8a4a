use Rattle.std.proofs.Common.{◌∙◌}
use Rattle.spl_factor.proofs.Values.{power_value}
use Rattle.spl_field.specs.SmallField.{size_of}
use Rattle.spl_factor.proofs.powers.raised.Goals as goal

pub returns-clause-value : goal.returns-clause-value
returns-clause-value c =
    let r = c.in_ok-pow_mod in
    power_value c.args.f.now c.args.a.now c.args.m.now r.field-0 c.from.result (size_of c.args.f.now)
    c.requires.polynomial c.requires.modulus record { over = r.ensures.over; trimmed = r.ensures.trimmed }
    (c.from.ensures ∙ c.size.ensures.size) r.ensures.value
