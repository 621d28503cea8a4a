use Rattle.spl_field.specs.SmallField.{small_ops, small_laws}
use Rattle.theory_fractions.proofs.Reducing.{quotients_coprime, quotient_nonzero, quotients_value}
use Rattle.spl_fraction.proofs.reduction.divided.Goals as goal

pub with_monic_denominator-requires-clause-den_nonzero : goal.with_monic_denominator-requires-clause-den_nonzero
with_monic_denominator-requires-clause-den_nonzero c =
    quotient_nonzero (small_ops c.args.f.now) (small_laws c.args.f.now) c.args.num.now c.args.den.now c.args.divisor.now
    c.in_ok-left.left.quotient c.in_ok-right.right.quotient c.in_ok-left.left.remainder c.in_ok-right.right.remainder
    record { over = c.requires.num_over; trimmed = c.requires.num_trimmed }
    record { over = c.requires.den_over; trimmed = c.requires.den_trimmed }
    record { over = c.requires.divisor_over; trimmed = c.requires.divisor_trimmed }
    record { over = c.in_ok-left.ensures.quotient_over; trimmed = c.in_ok-left.ensures.quotient_trimmed }
    record { over = c.in_ok-right.ensures.quotient_over; trimmed = c.in_ok-right.ensures.quotient_trimmed }
    record { over = c.in_ok-left.ensures.remainder_over; trimmed = c.in_ok-left.ensures.remainder_trimmed }
    record { over = c.in_ok-right.ensures.remainder_over; trimmed = c.in_ok-right.ensures.remainder_trimmed }
    c.requires.den_nonzero c.requires.divisor c.in_ok-left.ensures.value c.in_ok-right.ensures.value

pub with_monic_denominator-requires-clause-coprime : goal.with_monic_denominator-requires-clause-coprime
with_monic_denominator-requires-clause-coprime c =
    quotients_coprime (small_ops c.args.f.now)
    (small_laws c.args.f.now) c.args.num.now c.args.den.now c.args.divisor.now
    c.in_ok-left.left.quotient c.in_ok-right.right.quotient c.in_ok-left.left.remainder c.in_ok-right.right.remainder
    record { over = c.requires.num_over; trimmed = c.requires.num_trimmed }
    record { over = c.requires.den_over; trimmed = c.requires.den_trimmed }
    record { over = c.requires.divisor_over; trimmed = c.requires.divisor_trimmed }
    record { over = c.in_ok-left.ensures.quotient_over; trimmed = c.in_ok-left.ensures.quotient_trimmed }
    record { over = c.in_ok-right.ensures.quotient_over; trimmed = c.in_ok-right.ensures.quotient_trimmed }
    record { over = c.in_ok-left.ensures.remainder_over; trimmed = c.in_ok-left.ensures.remainder_trimmed }
    record { over = c.in_ok-right.ensures.remainder_over; trimmed = c.in_ok-right.ensures.remainder_trimmed }
    c.requires.den_nonzero c.requires.divisor c.in_ok-left.ensures.value c.in_ok-right.ensures.value

pub returns-clause-value : goal.returns-clause-value
returns-clause-value c =
    let low = c.in_ok-with_monic_denominator.ensures.lowest in
    quotients_value (small_ops c.args.f.now) (small_laws c.args.f.now) c.args.num.now c.args.den.now c.args.divisor.now
    c.in_ok-left.left.quotient c.in_ok-right.right.quotient c.in_ok-left.left.remainder c.in_ok-right.right.remainder
    record { over = c.requires.num_over; trimmed = c.requires.num_trimmed }
    record { over = c.requires.den_over; trimmed = c.requires.den_trimmed }
    record { over = c.requires.divisor_over; trimmed = c.requires.divisor_trimmed }
    record { over = c.in_ok-left.ensures.quotient_over; trimmed = c.in_ok-left.ensures.quotient_trimmed }
    record { over = c.in_ok-right.ensures.quotient_over; trimmed = c.in_ok-right.ensures.quotient_trimmed }
    record { over = c.in_ok-left.ensures.remainder_over; trimmed = c.in_ok-left.ensures.remainder_trimmed }
    record { over = c.in_ok-right.ensures.remainder_over; trimmed = c.in_ok-right.ensures.remainder_trimmed }
    c.requires.den_nonzero c.requires.divisor c.in_ok-left.ensures.value c.in_ok-right.ensures.value
    c.in_ok-with_monic_denominator.field-0 low.numerator_over low.denominator_over
    c.in_ok-with_monic_denominator.ensures.value
