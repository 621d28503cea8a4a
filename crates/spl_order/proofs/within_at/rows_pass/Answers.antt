use Rattle.std.proofs.Common.{false, refl, sym, subst, get_or, [], below_more, ◌∙◌}
use Rattle.std.proofs.lemmas.Bool.{both_ways}
use Rattle.spl_field.specs.SmallField.{small_ops, small_laws}
use Rattle.theory_rows.specs.Rows.{IsPolynomialRow}
use Rattle.spl_order.specs.Members.{HasDividedProduct}
use Rattle.spl_order.proofs.Values.{read_is}
use Rattle.spl_order.proofs.within_at.rows_pass.Goals as goal

pub passes-requires-clause-row : goal.passes-requires-clause-row
passes-requires-clause-row c =
    let i = c.loop-i.i in
    subst (IsPolynomialRow (small_ops c.args.f.now) c.args.n)
    (sym (c.as_slice.ensures ∙ read_is c.args.rows.now i c.index-rows-i.result c.loop-i-test.true c.index-rows-i.is))
    (c.requires.rows i [] c.loop-i-test.true)

pub returns-then-not-branch : goal.returns-then-not-branch
returns-then-not-branch c =
    let i = c.loop-i.i in
    let t = c.args.test.now in
    let l = c.loop-i-test.true in
    let e = c.as_slice.ensures ∙ read_is c.args.rows.now i c.index-rows-i.result l c.index-rows-i.is in (
      (λ t. absurd (both_ways false refl t)),
      (λ h. absurd (both_ways c.in_ok-passes.field-0 c.if-not-branch.true (c.in_ok-passes.ensures.1
          (subst (HasDividedProduct (small_ops c.args.f.now) (small_laws c.args.f.now) t.part c.args.n t.columns)
          (sym e) (h i l))))),
    )

pub loop-i-preserved : goal.loop-i-preserved
loop-i-preserved c =
    let i = c.loop-i.i in
    let t = c.args.test.now in
    let H = HasDividedProduct (small_ops c.args.f.now) (small_laws c.args.f.now) t.part c.args.n t.columns in
    let e = c.as_slice.ensures ∙ read_is c.args.rows.now i c.index-rows-i.result c.loop-i-test.true c.index-rows-i.is in
    below_more (λ i. H (get_or c.args.rows.now i [])) i
    c.loop-i.invariant (subst H e (c.in_ok-passes.ensures.0 c.if-not-branch.false))
