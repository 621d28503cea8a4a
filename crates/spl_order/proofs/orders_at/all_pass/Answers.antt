use Rattle.std.proofs.Common.{sym, subst, below_more, arith, IsTrue, ◌↔◌}
use Rattle.spl_field.specs.SmallField.{small_ops, small_laws}
use Rattle.theory_rows.specs.Rows.{IsPolynomialRow}
use Rattle.spl_order.specs.Coordinates.{row_at}
use Rattle.spl_order.specs.Members.{HasDividedProduct}
use Rattle.spl_order.proofs.ProductTests.{row_fits, row_at-row}
use Rattle.spl_order.proofs.TestLoops.{one_fails}
use Rattle.spl_order.proofs.orders_at.all_pass.Goals as goal

pub passes-requires-clause-row : goal.passes-requires-clause-row
passes-requires-clause-row c =
    let i = c.loop-i.i in
    subst (IsPolynomialRow (small_ops c.args.f.now) c.args.n) (sym c.row_of.ensures)
    (row_at-row (small_ops c.args.f.now) c.args.n c.args.rows.now c.requires.rows i
    (omega (arith, row_fits c.args.n c.args.h i c.loop-i-test.true, c.requires.rows_count)))

pub returns-then-not-branch : goal.returns-then-not-branch
returns-then-not-branch c =
    let i = c.loop-i.i in
    let t = c.args.test.now in
    let H = HasDividedProduct (small_ops c.args.f.now) (small_laws c.args.f.now) t.part c.args.n t.columns in
    let r = c.in_ok-passes.field-0 in
    one_fails (λ i. H (row_at c.args.n c.args.rows.now i)) c.args.h i r c.loop-i-test.true
    (subst (λ z. IsTrue r ↔ H z) c.row_of.ensures c.in_ok-passes.ensures) c.if-not-branch.true

pub loop-i-preserved : goal.loop-i-preserved
loop-i-preserved c =
    let i = c.loop-i.i in
    let t = c.args.test.now in
    let H = HasDividedProduct (small_ops c.args.f.now) (small_laws c.args.f.now) t.part c.args.n t.columns in
    below_more (λ i. H (row_at c.args.n c.args.rows.now i)) i
    c.loop-i.invariant (subst H c.row_of.ensures (c.in_ok-passes.ensures.0 c.if-not-branch.false))
