use Rattle.std.proofs.Common.{◌≡◌, [], ap, ◌∙◌, arith, ◌<◌, ℕ, List, length}
use Rattle.theory_rings.specs.Sum.{at}
use Rattle.theory_tables.specs.Matrix.{entry, trace_of}
use Rattle.theory_tables.proofs.Rows.Sums.{sum_step, read_at, row_at}
use Rattle.spl_matrix.proofs.matrix.diagonal_sum.Goals as goal

pub loop-i-preserved : goal.loop-i-preserved
loop-i-preserved g c =
    let o = g.F.Field.ops c.args.f.now in
    let rows = c.args.rows.now in
    let i = c.loop-i.i in
    let i_in = c.loop-i-test.true in
    let row = c.as_slice-row.result.now in
    let read = row_at rows i c.index-rows-i.result row i_in c.index-rows-i.is c.as_slice-row.ensures in
    let i_in' : i < length row = omega (arith, ap length read, (c.requires.shape i [] i_in).right_length) in
    record {
      elem = c.in_ok-sum-2.ensures.elem;
      value = sum_step o i (λ (k : ℕ). entry o rows k k) c.loop-i.sum c.in_ok-sum-2.sum c.index-row-i.result
          c.loop-i.invariant.value
          (read_at o row i c.index-row-i.result i_in' c.index-row-i.is
          ∙ ap (λ (r : List g.row.F-Elem.Denot). at o r i) read)
          c.in_ok-sum-2.ensures.value;
    }

pub returns : goal.returns
returns g c =
    let o = g.F.Field.ops c.args.f.now in
    let rows = c.args.rows.now in
    let ended : c.loop-i.i ≡ length rows = omega arith in
    record {
      elem = c.loop-i.invariant.elem;
      value = c.loop-i.invariant.value ∙ ap (λ (n : ℕ). trace_of o n rows) ended;
    }
