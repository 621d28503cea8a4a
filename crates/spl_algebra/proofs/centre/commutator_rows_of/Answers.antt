use Rattle.std.proofs.Common.{◌/◌, ◌%◌, sym, ◌∙◌}
use Rattle.theory_spaces.proofs.Matrices.PairIndex.{row-lt, column-lt}
use Rattle.theory_rings.specs.Sum.{table}
use Rattle.theory_spaces.specs.Tuples.{IsTuple}
use Rattle.theory_tables.proofs.Rows.Sums.{table_step, All_step}
use Rattle.spl_algebra.specs.Contractions.{commutator_item}
use Rattle.spl_algebra.proofs.centre.commutator_rows_of.Goals as goal

pub commutator_row_of-requires-clause-first : goal.commutator_row_of-requires-clause-first
commutator_row_of-requires-clause-first g c = row-lt c.args.m c.args.m c.loop-r.r c.loop-r-test.true

pub commutator_row_of-requires-clause-second : goal.commutator_row_of-requires-clause-second
commutator_row_of-requires-clause-second g c = column-lt c.args.m c.args.m c.loop-r.r c.loop-r-test.true

pub push-requires : goal.push-requires
push-requires g c = λ k d k_in. (c.loop-r.invariant.shape k d k_in).right_length
    ∙ sym c.in_ok-row.ensures.elem.right_length

pub loop-r-preserved : goal.loop-r-preserved
loop-r-preserved g c =
    let o = g.F.Field.ops c.args.f.now in
    let m = c.args.m in
    let cs = c.args.constants.now in
    let item = c.in_ok-row.row in
    record {
      shape = All_step (IsTuple o m) c.loop-r.rows c.push.new.self item c.loop-r.invariant.shape
          c.in_ok-row.ensures.elem c.in_ok-push.ensures.ok;
      value = table_step c.loop-r.r
          (λ r. table m (commutator_item o m cs (r / m)
          (r % m))) c.loop-r.rows c.push.new.self item c.loop-r.invariant.value c.in_ok-row.ensures.value
          c.in_ok-push.ensures.ok;
    }
