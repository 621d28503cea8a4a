use Rattle.std.proofs.Common.{sym, ◌∙◌, subst}
use Rattle.spl_field.specs.SmallField.{small_ops, small_laws}
use Rattle.theory_fractions.specs.PolynomialLists.{IsDivision, IsProduct, IsPolynomialList}
use Rattle.theory_fractions.proofs.ElementClauses.{lowest_of_elem}
use Rattle.theory_fractions.proofs.Reducing.{exact_quotient}
use Rattle.theory_fractions.proofs.SumsOfFractions.{denominator-ne-nil, denominator_of}
use Rattle.theory_fractions.proofs.PolynomialFractions.{as_fraction-mul_fraction}
use Rattle.spl_numerators.proofs.numerators.multiple_of.Goals as goal

pub divide-requires-clause-by_over : goal.divide-requires-clause-by_over
divide-requires-clause-by_over c =
    let o = small_ops c.args.f.now in
    c.denominator.ensures.over o (lowest_of_elem o (small_laws c.args.f.now) c.args.w.now c.requires.elem)

pub divide-requires-clause-nonzero : goal.divide-requires-clause-nonzero
divide-requires-clause-nonzero c e =
    let o = small_ops c.args.f.now in
    let L = small_laws c.args.f.now in
    denominator-ne-nil o L c.args.w.now (lowest_of_elem o L c.args.w.now c.requires.elem)
    (sym c.denominator.ensures.value ∙ e)

pub mul-requires-clause-b_over : goal.mul-requires-clause-b_over
mul-requires-clause-b_over c =
    let o = small_ops c.args.f.now in
    c.numerator.ensures.over o (lowest_of_elem o (small_laws c.args.f.now) c.args.w.now c.requires.elem)

pub returns-clause-value : goal.returns-clause-value
returns-clause-value c =
    let o = small_ops c.args.f.now in
    let L = small_laws c.args.f.now in
    let w = c.args.w.now in
    let d = c.in_ok-division in
    let m = c.in_ok-mul in
    let low = lowest_of_elem o L w c.requires.elem in
    let hc : IsPolynomialList o c.args.c.now = record { over = c.requires.c_over; trimmed = c.requires.c_trimmed } in
    let hq : IsPolynomialList o d.division.quotient =
    record { over = d.ensures.quotient_over; trimmed = d.ensures.quotient_trimmed } in
    as_fraction-mul_fraction o L c.args.c.now w d.division.quotient m.field-0 hc c.requires.elem hq
    record { over = m.ensures.over; trimmed = m.ensures.trimmed }
    (exact_quotient o L c.args.c.now w.1 d.division.quotient d.division.remainder hc (denominator_of o L w low) hq
    record { over = d.ensures.remainder_over; trimmed = d.ensures.remainder_trimmed }
    (denominator-ne-nil o L w low) c.requires.divides
    (subst (λ v. IsDivision o c.args.c.now v d.division.quotient d.division.remainder) c.denominator.ensures.value
    d.ensures.value))
    (subst (λ u. IsProduct o d.division.quotient u m.field-0) c.numerator.ensures.value m.ensures.value)
