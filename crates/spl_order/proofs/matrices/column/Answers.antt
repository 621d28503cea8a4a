use Rattle.std.proofs.Common.{◌≡◌, length, ◌∙◌, ap, subst, arith}
use Rattle.spl_field.specs.SmallField.{small_ops, small_laws}
use Rattle.theory_fractions.specs.FractionOps.{fraction_ops}
use Rattle.theory_fractions.specs.CommonDenominator.{as_fraction}
use Rattle.spl_order.specs.Values.{HasRow, fraction_entry}
use Rattle.spl_order.proofs.Values.{no_row, more_row}
use Rattle.spl_order.proofs.matrices.column.Goals as goal

pub loop-i-init : goal.loop-i-init
loop-i-init c =
    let o = small_ops c.args.f.now in
    let L = small_laws c.args.f.now in
    let K = fraction_ops o L in
    no_row o (λ i. fraction_entry o c.args.rows.now i c.args.j) c.new-items.result c.new-items.ensures

pub loop-i-preserved : goal.loop-i-preserved
loop-i-preserved c =
    let o = small_ops c.args.f.now in
    let L = small_laws c.args.f.now in
    let K = fraction_ops o L in
    let i = c.loop-i.i in
    let p = c.in_ok-copy in
    more_row o (λ i. fraction_entry o c.args.rows.now i c.args.j) i c.loop-i.items c.push.new.self p.field-0 c.loop-i.invariant c.in_ok-push.ensures.ok
    (record { over = p.ensures.over; trimmed = p.ensures.trimmed })
    (ap (as_fraction o) (p.ensures.value ∙ c.entry.ensures))

pub returns : goal.returns
returns c =
    let o = small_ops c.args.f.now in
    let L = small_laws c.args.f.now in
    let K = fraction_ops o L in
    let whole : c.loop-i.i ≡ length c.args.rows.now = omega (arith, c.loop-i-test.false, c.loop-i.auto) in
    subst (λ n. HasRow o (λ i. fraction_entry o c.args.rows.now i c.args.j) n c.loop-i.items) whole c.loop-i.invariant
