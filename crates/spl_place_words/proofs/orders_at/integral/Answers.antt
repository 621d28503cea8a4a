use Rattle.std.proofs.Common.{sym, subst}
use Rattle.spl_field.specs.SmallField.{small_ops, small_laws}
use Rattle.spl_fraction.specs.Fractions.{field_of}
use Rattle.theory_fractions.specs.PolynomialLists.{IsOver, IsPolynomialList, IsDivision}
use Rattle.theory_fractions.proofs.ElementClauses.{lowest_of_elem}
use Rattle.spl_place_words.proofs.IntegralFractions.{integral_by_remainder}
use Rattle.spl_place_words.proofs.orders_at.integral.Goals as goal

pub divide-requires-clause-self_over : goal.divide-requires-clause-self_over
divide-requires-clause-self_over c =
    let o = small_ops (field_of c.args.k.now) in
    subst (λ q. IsOver (small_ops q) c.denominator.result.now) (sym c.field.ensures)
    (c.denominator.ensures.over o (lowest_of_elem o (small_laws (field_of c.args.k.now)) c.in_ok-a.a c.in_ok-a.ensures))

pub returns-clause-integral : goal.returns-clause-integral
returns-clause-integral c =
    let F = field_of c.args.k.now in
    let o = small_ops F in
    let m = c.args.place.now in
    let d = c.in_ok-division.division in
    let e = c.in_ok-division.ensures in
    let polynomial = λ (p : _) (h : IsPolynomialList (small_ops c.field.result.now) p).
    subst (λ q. IsPolynomialList (small_ops q) p) c.field.ensures h in
    integral_by_remainder o (small_laws F) m c.in_ok-a.a c.in_ok-a.ensures c.requires d.quotient d.remainder
    (polynomial d.quotient record { over = e.quotient_over; trimmed = e.quotient_trimmed })
    (polynomial d.remainder record { over = e.remainder_over; trimmed = e.remainder_trimmed })
    (subst (λ q. IsDivision (small_ops q) c.in_ok-a.a.1 m d.quotient d.remainder) c.field.ensures
    (subst (λ t. IsDivision (small_ops c.field.result.now) t m d.quotient d.remainder) c.denominator.ensures.value
    e.value)) c.is_zero.result c.is_zero.ensures c.if-is_zero.false
