use Rattle.std.proofs.Common.{◌++◌, [], List, ap, ◌∙◌, arith}
use Rattle.std.proofs.lemmas.List.{take_all}
use Rattle.theory_tables.proofs.Rows.Sums.{row_at}
use Rattle.theory_tables.proofs.Rows.Stacks.{stacked_step}
use Rattle.spl_matrix.proofs.meet.stacked.Goals as goal

pub loop-i-preserved : goal.loop-i-preserved
loop-i-preserved g c =
    let b = c.args.b.now in
    let i = c.loop-i.i in
    let row = c.in_ok-copy.field-0 in
    stacked_step c.args.a.now b i c.loop-i.rows.items c.push.new.self.items row [] c.loop-i-test.true c.loop-i.invariant
    (row_at b i c.index-b-i.result row c.loop-i-test.true c.index-b-i.is c.in_ok-copy.ensures)
    c.in_ok-push.ensures.items

pub returns : goal.returns
returns g c =
    c.loop-i.invariant ∙ ap (λ (m : List (List g.row.F-Elem.Denot)). c.args.a.now ++ m)
    (take_all c.loop-i.i c.args.b.now (omega arith))
