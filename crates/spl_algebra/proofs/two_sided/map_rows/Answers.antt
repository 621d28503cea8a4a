use Rattle.std.proofs.Common.{◌*◌, ◌/◌, ◌%◌, sym, ◌∙◌}
use Rattle.theory_spaces.specs.Tuples.{IsTuple}
use Rattle.theory_spaces.proofs.Matrices.PairIndex.{row-lt, column-lt}
use Rattle.theory_tables.proofs.Rows.Sums.{table_step, All_step}
use Rattle.spl_algebra.specs.TwoSided.{map_coordinates}
use Rattle.spl_algebra.proofs.two_sided.map_rows.Goals as goal

pub map_row-requires-clause-first : goal.map_row-requires-clause-first
map_row-requires-clause-first g c = row-lt c.args.m c.args.m c.loop-t.t c.loop-t-test.true

pub map_row-requires-clause-second : goal.map_row-requires-clause-second
map_row-requires-clause-second g c = column-lt c.args.m c.args.m c.loop-t.t c.loop-t-test.true

pub push-requires : goal.push-requires
push-requires g c = λ k d k_in. (c.loop-t.invariant.shape k d k_in).right_length
    ∙ sym c.in_ok-row.ensures.elem.right_length

pub loop-t-preserved : goal.loop-t-preserved
loop-t-preserved g c =
    let o = g.F.Field.ops c.args.f.now in
    let m = c.args.m in
    let row = c.in_ok-row in
    record {
      shape = All_step (IsTuple o (m * m)) c.loop-t.rows c.push.new.self row.row c.loop-t.invariant.shape
          row.ensures.elem c.in_ok-push.ensures.ok;
      value = table_step c.loop-t.t (λ t. map_coordinates o m c.args.constants.now (t / m) (t % m)) c.loop-t.rows
          c.push.new.self row.row c.loop-t.invariant.value row.ensures.value c.in_ok-push.ensures.ok;
    }
