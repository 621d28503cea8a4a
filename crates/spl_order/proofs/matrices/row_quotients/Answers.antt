use Rattle.std.proofs.Common.{◌≡◌, [], get_or, length, sym, ◌∙◌, ap, subst, arith, All}
use Rattle.spl_field.specs.SmallField.{small_ops, small_laws}
use Rattle.theory_fractions.specs.PolynomialLists.{IsPolynomialList, Divides}
use Rattle.theory_fractions.specs.FractionOps.{fraction_ops}
use Rattle.theory_rows.specs.Rows.{IsPolynomialRow}
use Rattle.theory_bases.specs.Bases.{fraction_over}
use Rattle.spl_order.specs.Values.{HasRow, HasMatrix}
use Rattle.spl_order.proofs.Values.{no_rows, more_rows, read, read_is, items_of}
use Rattle.spl_order.proofs.matrices.row_quotients.Goals as goal

pub loop-i-init : goal.loop-i-init
loop-i-init c =
    let o = small_ops c.args.f.now in
    let L = small_laws c.args.f.now in
    let K = fraction_ops o L in
    no_rows o (λ i j. fraction_over o L c.args.h.now (get_or (get_or c.args.rows.now i []) j [])) c.args.w c.new-parts.result c.new-parts.ensures

pub loop-i-preserved : goal.loop-i-preserved
loop-i-preserved c =
    let o = small_ops c.args.f.now in
    let L = small_laws c.args.f.now in
    let K = fraction_ops o L in
    let i = c.loop-i.i in
    let p = c.in_ok-quotients in
    more_rows o (λ i j. fraction_over o L c.args.h.now (get_or (get_or c.args.rows.now i []) j [])) c.args.w i c.loop-i.parts c.push.new.self p.field-0 c.loop-i.invariant c.in_ok-push.ensures.ok
    (subst (λ r. HasRow o (λ j. fraction_over o L c.args.h.now (get_or r j [])) c.args.w p.field-0)
    (c.as_slice.ensures ∙ read_is c.args.rows.now i c.index-rows-i.result c.loop-i-test.true c.index-rows-i.is)
    (subst (λ n. HasRow o (λ j. fraction_over o L c.args.h.now (get_or c.as_slice.result.now j [])) n p.field-0)
    (ap length c.as_slice.ensures ∙ (let h = read (IsPolynomialRow o c.args.w) c.args.rows.now i c.index-rows-i.result
    c.loop-i-test.true c.index-rows-i.is c.requires.rows in h.width)) p.ensures))

pub returns : goal.returns
returns c =
    let o = small_ops c.args.f.now in
    let L = small_laws c.args.f.now in
    let K = fraction_ops o L in
    let whole : c.loop-i.i ≡ length c.args.rows.now = omega (arith, c.loop-i-test.false, c.loop-i.auto) in
    subst (λ n. HasMatrix o (λ i j. fraction_over o L c.args.h.now (get_or (get_or c.args.rows.now i []) j [])) n c.args.w c.loop-i.parts) whole c.loop-i.invariant

pub quotients-requires-clause-items : goal.quotients-requires-clause-items
quotients-requires-clause-items c =
    let o = small_ops c.args.f.now in
    subst (All (IsPolynomialList o)) (sym c.as_slice.ensures)
    (items_of o c.args.w c.index-rows-i.result (read (IsPolynomialRow o c.args.w) c.args.rows.now c.loop-i.i
    c.index-rows-i.result c.loop-i-test.true c.index-rows-i.is c.requires.rows))

pub quotients-requires-clause-divides : goal.quotients-requires-clause-divides
quotients-requires-clause-divides c =
    let o = small_ops c.args.f.now in
    subst (All (Divides o c.args.h.now)) (sym c.as_slice.ensures)
    (read (All (Divides o c.args.h.now)) c.args.rows.now c.loop-i.i c.index-rows-i.result c.loop-i-test.true
    c.index-rows-i.is c.requires.divides)
