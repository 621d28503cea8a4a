use Rattle.spl_factor.proofs.Values.{quotient_value, not_divides}
use Rattle.spl_factor.proofs.gcd.exact_quotient.Goals as goal

pub returns-then-not-is_zero : goal.returns-then-not-is_zero
returns-then-not-is_zero c =
    let d = c.in_ok-division in
    not_divides c.args.f.now c.args.a.now c.args.b.now d.division.quotient d.division.remainder c.requires.a_over
    c.requires.b_list.polynomial d.ensures.quotient_over
    record { over = d.ensures.remainder_over; trimmed = d.ensures.remainder_trimmed } d.ensures.value
    (λ e. cc (c.is_zero.ensures.1 e, c.if-not-is_zero.true))

pub returns : goal.returns
returns c =
    let d = c.in_ok-division in (
      record { over = d.ensures.quotient_over; trimmed = d.ensures.quotient_trimmed },
      quotient_value c.args.f.now c.args.a.now c.args.b.now d.division.quotient d.division.remainder c.requires.a_over
          c.requires.b_list.polynomial.over d.ensures.quotient_over d.ensures.remainder_over d.ensures.value
          (c.is_zero.ensures.0 c.if-not-is_zero.false),
    )
