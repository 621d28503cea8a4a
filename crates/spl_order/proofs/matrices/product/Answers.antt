use Rattle.std.proofs.Common.{◌≡◌, [], get_or, length, sym, ◌∙◌, subst, arith}
use Rattle.theory_rings.specs.Sum.{sum_of}
use Rattle.spl_field.specs.SmallField.{small_ops, small_laws}
use Rattle.theory_fractions.specs.FractionOps.{fraction_ops}
use Rattle.theory_fractions.specs.CommonDenominator.{as_fraction}
use Rattle.theory_rows.specs.Rows.{IsPolynomialRow}
use Rattle.spl_order.specs.Values.{HasRow, HasMatrix, fraction_entry, product_entry}
use Rattle.spl_order.proofs.Values.{no_rows, more_rows, read, read_is}
use Rattle.spl_order.proofs.matrices.product.Goals as goal

pub loop-i-init : goal.loop-i-init
loop-i-init c =
    let o = small_ops c.args.f.now in
    let L = small_laws c.args.f.now in
    let K = fraction_ops o L in
    no_rows o (product_entry o L (length c.args.b.now) c.args.a.now c.args.b.now) c.args.w c.new-rows.result c.new-rows.ensures

pub loop-i-preserved : goal.loop-i-preserved
loop-i-preserved c =
    let o = small_ops c.args.f.now in
    let L = small_laws c.args.f.now in
    let K = fraction_ops o L in
    let i = c.loop-i.i in
    let p = c.in_ok-product_row in
    more_rows o (product_entry o L (length c.args.b.now) c.args.a.now c.args.b.now) c.args.w i c.loop-i.rows c.push.new.self p.field-0 c.loop-i.invariant c.in_ok-push.ensures.ok
    (subst (λ r. HasRow o (λ j. sum_of K (length c.args.b.now) (λ k. K.mul (as_fraction o (get_or r k []))
    (fraction_entry o c.args.b.now k j))) c.args.w p.field-0)
    (c.as_slice.ensures ∙ read_is c.args.a.now i c.index-a-i.result c.loop-i-test.true c.index-a-i.is) p.ensures)

pub returns : goal.returns
returns c =
    let o = small_ops c.args.f.now in
    let L = small_laws c.args.f.now in
    let K = fraction_ops o L in
    let whole : c.loop-i.i ≡ length c.args.a.now = omega (arith, c.loop-i-test.false, c.loop-i.auto) in
    subst (λ n. HasMatrix o (product_entry o L (length c.args.b.now) c.args.a.now c.args.b.now) n c.args.w c.loop-i.rows) whole c.loop-i.invariant

pub product_row-requires-clause-row : goal.product_row-requires-clause-row
product_row-requires-clause-row c =
    let o = small_ops c.args.f.now in
    subst (IsPolynomialRow o (length c.args.b.now)) (sym c.as_slice.ensures)
    (read (IsPolynomialRow o (length c.args.b.now)) c.args.a.now c.loop-i.i c.index-a-i.result c.loop-i-test.true
    c.index-a-i.is c.requires.a)
