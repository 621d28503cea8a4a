use Rattle.std.proofs.lemmas.Bool.{both_ways}
use Rattle.spl_field.specs.SmallField.{small_ops, small_laws}
use Rattle.spl_fraction.proofs.Multiplicities.{no_remainder, product_of_division}
use Rattle.spl_fraction.proofs.valuation.exact_quotient.Goals as goal

pub returns-then-is_zero-clause-value : goal.returns-then-is_zero-clause-value
returns-then-is_zero-clause-value c =
    let d = c.in_ok-division in
    product_of_division (small_ops c.args.f.now) (small_laws c.args.f.now) c.args.a.now c.args.m.now d.division.quotient
    d.division.remainder
    c.requires.a_over c.requires.m_over d.ensures.quotient_over d.ensures.value (c.is_zero.ensures.0 c.if-is_zero.true)

pub returns-clause-none : goal.returns-clause-none
returns-clause-none c e h =
    let d = c.in_ok-division in
    both_ways c.is_zero.result c.if-is_zero.false
    (c.is_zero.ensures.1 (no_remainder (small_ops c.args.f.now) (small_laws c.args.f.now) c.args.a.now
    c.args.m.now
    d.division.quotient d.division.remainder record { over = c.requires.a_over; trimmed = c.requires.a_trimmed }
    record { over = c.requires.m_over; trimmed = c.requires.m_trimmed }
    record { over = d.ensures.quotient_over; trimmed = d.ensures.quotient_trimmed }
    record { over = d.ensures.remainder_over; trimmed = d.ensures.remainder_trimmed }
    c.requires.nonzero d.ensures.value h))
