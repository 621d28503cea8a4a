use Rattle.std.proofs.Common.{◌≡◌, [], get_or, length, ◌∙◌, ap, subst, arith}
use Rattle.spl_field.specs.SmallField.{small_ops, small_laws}
use Rattle.theory_fractions.specs.PolynomialLists.{IsPolynomialList}
use Rattle.theory_fractions.specs.FractionOps.{fraction_ops}
use Rattle.theory_fractions.specs.CommonDenominator.{as_fraction}
use Rattle.spl_order.specs.Values.{HasRow}
use Rattle.spl_order.proofs.Values.{no_row, more_row, read, read_is}
use Rattle.theory_fractions.proofs.PolynomialFractions.{as_fraction-mul}
use Rattle.spl_order.proofs.matrices.multiples.Goals as goal

pub loop-i-init : goal.loop-i-init
loop-i-init c =
    let o = small_ops c.args.f.now in
    let L = small_laws c.args.f.now in
    let K = fraction_ops o L in
    no_row o (λ j. K.mul (as_fraction o c.args.c.now) (as_fraction o (get_or c.args.items.now j []))) c.new-row.result c.new-row.ensures

pub loop-i-preserved : goal.loop-i-preserved
loop-i-preserved c =
    let o = small_ops c.args.f.now in
    let L = small_laws c.args.f.now in
    let K = fraction_ops o L in
    let i = c.loop-i.i in
    let p = c.in_ok-mul in
    more_row o (λ j. K.mul (as_fraction o c.args.c.now) (as_fraction o (get_or c.args.items.now j []))) i c.loop-i.row c.push.new.self p.field-0 c.loop-i.invariant c.in_ok-push.ensures.ok
    (record { over = p.ensures.over; trimmed = p.ensures.trimmed })
    (as_fraction-mul o L c.args.c.now c.index-items-i.result p.field-0 c.requires.c
    (read (IsPolynomialList o) c.args.items.now i c.index-items-i.result c.loop-i-test.true c.index-items-i.is
    c.requires.items)
    (record { over = p.ensures.over; trimmed = p.ensures.trimmed }) p.ensures.value
    ∙ ap (λ u. K.mul (as_fraction o c.args.c.now) (as_fraction o u))
    (read_is c.args.items.now i c.index-items-i.result c.loop-i-test.true c.index-items-i.is))

pub returns : goal.returns
returns c =
    let o = small_ops c.args.f.now in
    let L = small_laws c.args.f.now in
    let K = fraction_ops o L in
    let whole : c.loop-i.i ≡ length c.args.items.now = omega (arith, c.loop-i-test.false, c.loop-i.auto) in
    subst (λ n. HasRow o (λ j. K.mul (as_fraction o c.args.c.now) (as_fraction o (get_or c.args.items.now j []))) n c.loop-i.row) whole c.loop-i.invariant

pub mul-requires-clause-b_over : goal.mul-requires-clause-b_over
mul-requires-clause-b_over c =
    let o = small_ops c.args.f.now in
    let h = read (IsPolynomialList o) c.args.items.now c.loop-i.i c.index-items-i.result c.loop-i-test.true
    c.index-items-i.is c.requires.items in
    h.over
