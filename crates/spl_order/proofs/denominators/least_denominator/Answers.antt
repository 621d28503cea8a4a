use Rattle.spl_field.specs.SmallField.{small_ops, small_laws}
use Rattle.spl_order.proofs.Contents.{list_over, divisor_nonzero, quotient_nonzero, least_by_generator}
use Rattle.spl_order.proofs.denominators.least_denominator.Goals as goal

pub joined_polynomials-requires-clause-rows : goal.joined_polynomials-requires-clause-rows
joined_polynomials-requires-clause-rows c = λ k d l. let h = c.requires.rows k d l in h.over

pub generator-requires : goal.generator-requires
generator-requires c = record {
  over = list_over (small_ops c.args.f.now) (small_laws c.args.f.now) c.args.w c.args.c.now c.args.rows.now c.requires.c
      c.requires.nonzero c.requires.rows c.in_ok-list.list c.in_ok-list.ensures;
}

pub divide-requires-clause-nonzero : goal.divide-requires-clause-nonzero
divide-requires-clause-nonzero c =
    let g = c.in_ok-divisor.ensures in
    divisor_nonzero (small_ops c.args.f.now) (small_laws c.args.f.now) c.args.w c.args.c.now c.args.rows.now
    c.requires.c c.requires.nonzero c.requires.rows c.in_ok-list.list c.in_ok-list.ensures
    c.in_ok-divisor.field-0.multipliers c.in_ok-divisor.field-0.value g.value
    record { over = g.over; trimmed = g.trimmed } g.multipliers_over g.multipliers_trimmed

pub monic-requires-clause-nonzero : goal.monic-requires-clause-nonzero
monic-requires-clause-nonzero c =
    let g = c.in_ok-divisor.ensures in
    let d = c.in_ok-quotient.ensures in
    quotient_nonzero (small_ops c.args.f.now) (small_laws c.args.f.now) c.args.w c.args.c.now c.args.rows.now
    c.requires.c c.requires.nonzero c.requires.rows c.in_ok-list.list c.in_ok-list.ensures
    c.in_ok-divisor.field-0.multipliers c.in_ok-divisor.field-0.value g.value
    record { over = g.over; trimmed = g.trimmed } g.multipliers_over g.multipliers_trimmed
    c.in_ok-quotient.field-0.quotient c.in_ok-quotient.field-0.remainder
    record { over = d.quotient_over; trimmed = d.quotient_trimmed }
    record { over = d.remainder_over; trimmed = d.remainder_trimmed } d.value

pub returns : goal.returns
returns c =
    let g = c.in_ok-divisor.ensures in
    let d = c.in_ok-quotient.ensures in
    let p = c.in_ok-monic in
    record {
      polynomial = record { over = p.ensures.over; trimmed = p.ensures.trimmed };
      least = least_by_generator (small_ops c.args.f.now) (small_laws c.args.f.now) c.args.w c.args.c.now
          c.args.rows.now c.requires.c c.requires.nonzero c.requires.rows c.in_ok-list.list c.in_ok-list.ensures
          c.in_ok-divisor.field-0.multipliers c.in_ok-divisor.field-0.value g.value
          record { over = g.over; trimmed = g.trimmed } g.multipliers_over g.multipliers_trimmed
          c.in_ok-quotient.field-0.quotient c.in_ok-quotient.field-0.remainder
          record { over = d.quotient_over; trimmed = d.quotient_trimmed }
          record { over = d.remainder_over; trimmed = d.remainder_trimmed } d.value p.field-0
          record { over = p.ensures.over; trimmed = p.ensures.trimmed } p.ensures.value;
    }
