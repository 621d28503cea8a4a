use Rattle.std.proofs.Common.{[], List, get_or, length, ◌∙◌, ap, subst, sym}
use Rattle.std.proofs.lemmas.List.Elements.{All-get_or}
use Rattle.theory_spaces.specs.Tuples.{IsTuple}
use Rattle.theory_tables.proofs.Rows.Sums.{table_step, All_step, row_at}
use Rattle.spl_blocks.specs.Splits.{combination_of}
use Rattle.spl_local.proofs.ideals.lifted.Goals as goal

pub combination-requires-clause-weights : goal.combination-requires-clause-weights
combination-requires-clause-weights g c =
    let o = g.F.Field.ops c.args.f.now in
    let rows = c.args.rows.now in
    let i = c.loop-i.i in
    subst (IsTuple o (length c.args.lifts.now))
    (sym (row_at rows i c.index-rows-i.result c.as_slice.result.now c.loop-i-test.true c.index-rows-i.is c.as_slice.ensures))
    (All-get_or (IsTuple o (length c.args.lifts.now)) rows i [] c.loop-i-test.true c.requires.rows)

pub loop-i-preserved : goal.loop-i-preserved
loop-i-preserved g c =
    let o = g.F.Field.ops c.args.f.now in
    let A = c.args.a.now in
    let rows = c.args.rows.now in
    let lifts = c.args.lifts.now in
    let i = c.loop-i.i in
    let d = c.in_ok-combination in
    let row = row_at rows i c.index-rows-i.result c.as_slice.result.now c.loop-i-test.true c.index-rows-i.is
    c.as_slice.ensures in
    record {
      shape = All_step (IsTuple o A.dim) c.loop-i.out c.push.new.self d.field-0 c.loop-i.invariant.shape
          d.ensures.elem c.in_ok-push.ensures.ok;
      value = table_step i (λ i. combination_of o A (get_or rows i []) lifts) c.loop-i.out c.push.new.self d.field-0
          c.loop-i.invariant.value
          (d.ensures.value ∙ ap (λ (r : List g.row.F-Elem.Denot). combination_of o A r lifts) row)
          c.in_ok-push.ensures.ok;
    }
