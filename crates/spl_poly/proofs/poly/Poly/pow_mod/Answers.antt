use Rattle.std.proofs.Common.{subst}
use Rattle.theory_rings.specs.Polynomial.{IsTrimmed}
use Rattle.spl_field.specs.SmallField.{small_ops}
use Rattle.spl_poly.proofs.PowerRemainders.{power_remainder_base}
use Rattle.spl_poly.proofs.poly.Poly.pow_mod.Goals as goal

pub returns-in_ok-rest_of_power-2-clause-value : goal.returns-in_ok-rest_of_power-2-clause-value
returns-in_ok-rest_of_power-2-clause-value c =
    let d = c.in_ok-base in
    let r = c.in_ok-rest_of_power-2 in
    power_remainder_base (small_ops c.args.f.now) c.know_laws.ensures c.args.modulus.now c.requires.modulus_over
    (subst (IsTrimmed 0) c.modulus.view_is c.modulus.invariant)
    c.args.self.now c.requires.self_over
    (subst (IsTrimmed 0) c.self.view_is c.self.invariant) c.args.exponent d.field-0.remainder r.field-0
    d.ensures.remainder_over d.ensures.remainder_trimmed r.ensures.over r.ensures.trimmed
    (d.field-0.quotient, d.ensures.quotient_over, d.ensures.value) r.ensures.value
