use Rattle.std.proofs.Common.{◌≡◌, length, subst, arith}
use Rattle.spl_field.specs.SmallField.{small_ops, small_laws}
use Rattle.theory_fractions.specs.FractionOps.{fraction_ops}
use Rattle.spl_order.specs.Values.{HasMatrix, fraction_entry}
use Rattle.spl_order.proofs.Values.{no_rows, more_rows}
use Rattle.spl_order.proofs.matrices.transposed.Goals as goal

pub loop-j-init : goal.loop-j-init
loop-j-init c =
    let o = small_ops c.args.f.now in
    let L = small_laws c.args.f.now in
    let K = fraction_ops o L in
    no_rows o (λ j i. fraction_entry o c.args.rows.now i j) (length c.args.rows.now) c.new-columns.result c.new-columns.ensures

pub loop-j-preserved : goal.loop-j-preserved
loop-j-preserved c =
    let o = small_ops c.args.f.now in
    let L = small_laws c.args.f.now in
    let K = fraction_ops o L in
    let i = c.loop-j.j in
    let p = c.in_ok-column in
    more_rows o (λ j i. fraction_entry o c.args.rows.now i j) (length c.args.rows.now) i c.loop-j.columns c.push.new.self p.field-0 c.loop-j.invariant c.in_ok-push.ensures.ok
    p.ensures

pub returns : goal.returns
returns c =
    let o = small_ops c.args.f.now in
    let L = small_laws c.args.f.now in
    let K = fraction_ops o L in
    let whole : c.loop-j.j ≡ c.args.w = omega (arith, c.loop-j-test.false, c.loop-j.auto) in
    subst (λ n. HasMatrix o (λ j i. fraction_entry o c.args.rows.now i j) n (length c.args.rows.now) c.loop-j.columns) whole c.loop-j.invariant
