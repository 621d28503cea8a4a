use Rattle.std.proofs.Common.{◌∙◌, ap, length}
use Rattle.spl_field.specs.SmallField.{characteristic, modulus_of}
use Rattle.spl_radical.proofs.Elements.{modulus_over, modulus_not_empty, some_digits, first_turn_is}
use Rattle.spl_radical.proofs.lift_ring.first_turn_of.Goals as goal

pub monic-requires-clause-over : goal.monic-requires-clause-over
monic-requires-clause-over c = modulus_over c.args.k.now c.field-f.result.now c.modulus.result.now c.field-f.ensures
    c.modulus.ensures.value

pub monic-requires-clause-nonzero : goal.monic-requires-clause-nonzero
monic-requires-clause-nonzero c = modulus_not_empty c.args.k.now c.modulus.result.now c.modulus.ensures.value

pub first_turn-requires-clause-digits : goal.first_turn-requires-clause-digits
first_turn-requires-clause-digits c = some_digits c.args.k.now c.field-f.result.now c.modulus-digits.result.now
    c.field-f.ensures c.modulus-digits.ensures

pub returns : goal.returns
returns c = first_turn_is c.args.k.now c.field-f.result.now c.modulus.result.now c.in_ok-monic.monic
    c.as_slice.result.now c.in_ok-first_turn.field-0 c.from.result (length c.modulus-digits.result.now) c.args.q
    c.args.width c.field-f.ensures c.modulus.ensures.value c.in_ok-monic.ensures.value c.in_ok-monic.ensures.over
    c.in_ok-monic.ensures.trimmed (c.from.ensures ∙ c.p.ensures.p ∙ ap characteristic c.field-f.ensures)
    (ap length c.modulus-digits.ensures ∙ ap (λ f. length (modulus_of f)) c.field-f.ensures) c.as_slice.ensures
    c.in_ok-first_turn.ensures
