use Rattle.std.proofs.Common.{◌≡◌, [], get_or, length, ◌∙◌, ap, subst, arith}
use Rattle.spl_field.specs.SmallField.{small_ops, small_laws}
use Rattle.theory_fractions.specs.PolynomialLists.{IsPolynomialList, Divides}
use Rattle.theory_fractions.specs.FractionOps.{fraction_ops}
use Rattle.theory_bases.specs.Bases.{fraction_over}
use Rattle.spl_order.specs.Values.{HasRow}
use Rattle.spl_order.proofs.Values.{no_row, more_row, read, read_is}
use Rattle.spl_order.proofs.ExactQuotients.{quotient_value}
use Rattle.spl_order.proofs.matrices.quotients.Goals as goal

pub loop-i-init : goal.loop-i-init
loop-i-init c =
    let o = small_ops c.args.f.now in
    let L = small_laws c.args.f.now in
    let K = fraction_ops o L in
    no_row o (λ j. fraction_over o L c.args.h.now (get_or c.args.items.now j [])) c.new-row.result c.new-row.ensures

pub loop-i-preserved : goal.loop-i-preserved
loop-i-preserved c =
    let o = small_ops c.args.f.now in
    let L = small_laws c.args.f.now in
    let K = fraction_ops o L in
    let i = c.loop-i.i in
    let p = c.in_ok-divide in
    more_row o (λ j. fraction_over o L c.args.h.now (get_or c.args.items.now j [])) i c.loop-i.row c.push.new.self p.field-0.quotient c.loop-i.invariant c.in_ok-push.ensures.ok
    (record { over = p.ensures.quotient_over; trimmed = p.ensures.quotient_trimmed })
    (quotient_value o L c.args.h.now c.index-items-i.result p.field-0.quotient p.field-0.remainder c.requires.h
    c.requires.nonzero
    (read (IsPolynomialList o) c.args.items.now i c.index-items-i.result c.loop-i-test.true c.index-items-i.is
    c.requires.items)
    (record { over = p.ensures.quotient_over; trimmed = p.ensures.quotient_trimmed })
    (record { over = p.ensures.remainder_over; trimmed = p.ensures.remainder_trimmed })
    (read (Divides o c.args.h.now) c.args.items.now i c.index-items-i.result c.loop-i-test.true c.index-items-i.is
    c.requires.divides) p.ensures.value
    ∙ ap (fraction_over o L c.args.h.now)
    (read_is c.args.items.now i c.index-items-i.result c.loop-i-test.true c.index-items-i.is))

pub returns : goal.returns
returns c =
    let o = small_ops c.args.f.now in
    let L = small_laws c.args.f.now in
    let K = fraction_ops o L in
    let whole : c.loop-i.i ≡ length c.args.items.now = omega (arith, c.loop-i-test.false, c.loop-i.auto) in
    subst (λ n. HasRow o (λ j. fraction_over o L c.args.h.now (get_or c.args.items.now j [])) n c.loop-i.row) whole c.loop-i.invariant

pub divide-requires-clause-self_over : goal.divide-requires-clause-self_over
divide-requires-clause-self_over c =
    let o = small_ops c.args.f.now in
    let h = read (IsPolynomialList o) c.args.items.now c.loop-i.i c.index-items-i.result c.loop-i-test.true
    c.index-items-i.is c.requires.items in
    h.over
