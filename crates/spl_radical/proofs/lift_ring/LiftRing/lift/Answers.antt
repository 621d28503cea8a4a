use Rattle.std.proofs.Common.{◌∙◌, ap}
use Rattle.spl_field.specs.SmallField.{characteristic}
use Rattle.spl_radical.specs.LiftNumbers.{residues_of, level_of}
use Rattle.spl_radical.proofs.Elements.{digits_read, lift_is, lift_below, lift_small, lift_digits}
use Rattle.spl_radical.proofs.lift_ring.LiftRing.lift.Goals as goal

pub returns : goal.returns
returns c =
    let R = c.args.self.now in
    let k = residues_of R in
    let l = level_of R in
    let a = c.args.a.now in
    let e = digits_read k l c.from-p.result R.digits R.width a c.as_slice.result.now c.in_ok-numbers.numbers
    (c.from-p.ensures ∙ c.p.ensures.p ∙ ap characteristic c.field.ensures) R.digits_is R.width_is
    (c.as_slice.ensures ∙ c.in_ok-poly.ensures.value) c.in_ok-numbers.ensures in
    record {
      elem = lift_below k l a c.in_ok-numbers.numbers e;
      small = lift_small k l a c.in_ok-numbers.numbers e;
      value = lift_is k l a c.in_ok-numbers.numbers c.requires e;
      digits = lift_digits k l a c.in_ok-numbers.numbers e;
    }
