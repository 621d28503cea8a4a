use Rattle.std.proofs.Common.{⊎_elim}
use Rattle.spl_field.specs.SmallField.{small_ops, small_laws}
use Rattle.theory_fractions.proofs.CommonDenominators.{least_multiple_product}
use Rattle.theory_fractions.proofs.Reducing.{divisor_nonzero}
use Rattle.spl_fraction.proofs.denominator.multiple_by_divisor.Goals as goal

pub divide-requires-clause-nonzero : goal.divide-requires-clause-nonzero
divide-requires-clause-nonzero c =
    divisor_nonzero (small_ops c.args.f.now) (small_laws c.args.f.now) c.args.a.now c.args.b.now c.in_ok-divisor.divisor
    record { over = c.requires.b_over; trimmed = c.requires.b_trimmed }
    c.requires.b_nonzero c.in_ok-divisor.ensures.divisor

pub returns-clause-value : goal.returns-clause-value
returns-clause-value c =
    let o = small_ops c.args.f.now in
    let g = c.in_ok-divisor.ensures in
    let q = c.in_ok-division in
    let m = c.in_ok-mul in
    least_multiple_product o (small_laws c.args.f.now) c.args.a.now c.args.b.now c.in_ok-divisor.divisor
    q.division.quotient q.division.remainder m.field-0
    record { over = c.requires.a_over; trimmed = c.requires.a_trimmed }
    record { over = c.requires.b_over; trimmed = c.requires.b_trimmed }
    record { over = g.over; trimmed = g.trimmed }
    record { over = q.ensures.quotient_over; trimmed = q.ensures.quotient_trimmed }
    record { over = q.ensures.remainder_over; trimmed = q.ensures.remainder_trimmed }
    record { over = m.ensures.over; trimmed = m.ensures.trimmed }
    c.requires.a_nonzero c.requires.b_nonzero c.requires.a_monic c.requires.b_monic
    (⊎_elim
    (λ z. absurd (divisor_nonzero o (small_laws c.args.f.now) c.args.a.now c.args.b.now c.in_ok-divisor.divisor
    record { over = c.requires.b_over; trimmed = c.requires.b_trimmed } c.requires.b_nonzero g.divisor z))
    (λ e. e) g.monic)
    g.divisor q.ensures.value m.ensures.value
