use Rattle.std.proofs.Common.{[], ◌∙◌, arith}
use Rattle.std.proofs.lemmas.List.{take_all}
use Rattle.theory_tables.proofs.Rows.Sums.{row_at}
use Rattle.theory_tables.proofs.Rows.Stacks.{stacked_step}
use Rattle.spl_matrix.proofs.matrix.copied.Goals as goal

pub loop-i-preserved : goal.loop-i-preserved
loop-i-preserved g c =
    let rows = c.args.rows.now in
    let i = c.loop-i.i in
    let row = c.in_ok-copy.field-0 in
    stacked_step [] rows i c.loop-i.out.items c.push.new.self.items row [] c.loop-i-test.true c.loop-i.invariant
    (row_at rows i c.index-rows-i.result row c.loop-i-test.true c.index-rows-i.is c.in_ok-copy.ensures)
    c.in_ok-push.ensures.items

pub returns : goal.returns
returns g c = c.loop-i.invariant ∙ take_all c.loop-i.i c.args.rows.now (omega arith)
