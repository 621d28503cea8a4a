use Rattle.std.proofs.Common.{◌≡◌, [], get_or, length, subst, arith}
use Rattle.theory_rings.specs.Sum.{sum_of}
use Rattle.spl_field.specs.SmallField.{small_ops, small_laws}
use Rattle.theory_fractions.specs.FractionOps.{fraction_ops}
use Rattle.theory_fractions.specs.CommonDenominator.{as_fraction}
use Rattle.spl_order.specs.Values.{HasRow, fraction_entry}
use Rattle.spl_order.proofs.Values.{no_row, more_row}
use Rattle.spl_order.proofs.matrices.product_row.Goals as goal

pub loop-j-init : goal.loop-j-init
loop-j-init c =
    let o = small_ops c.args.f.now in
    let L = small_laws c.args.f.now in
    let K = fraction_ops o L in
    no_row o (λ j. sum_of K (length c.args.rows.now) (λ k. K.mul (as_fraction o (get_or c.args.row.now k [])) (fraction_entry o c.args.rows.now k j))) c.new-items.result c.new-items.ensures

pub loop-j-preserved : goal.loop-j-preserved
loop-j-preserved c =
    let o = small_ops c.args.f.now in
    let L = small_laws c.args.f.now in
    let K = fraction_ops o L in
    let i = c.loop-j.j in
    let p = c.in_ok-dot in
    more_row o (λ j. sum_of K (length c.args.rows.now) (λ k. K.mul (as_fraction o (get_or c.args.row.now k [])) (fraction_entry o c.args.rows.now k j))) i c.loop-j.items c.push.new.self p.field-0 c.loop-j.invariant c.in_ok-push.ensures.ok
    p.ensures.polynomial
    p.ensures.value

pub returns : goal.returns
returns c =
    let o = small_ops c.args.f.now in
    let L = small_laws c.args.f.now in
    let K = fraction_ops o L in
    let whole : c.loop-j.j ≡ c.args.w = omega (arith, c.loop-j-test.false, c.loop-j.auto) in
    subst (λ n. HasRow o (λ j. sum_of K (length c.args.rows.now) (λ k. K.mul (as_fraction o (get_or c.args.row.now k [])) (fraction_entry o c.args.rows.now k j))) n c.loop-j.items) whole c.loop-j.invariant
