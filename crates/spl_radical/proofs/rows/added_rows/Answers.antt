use Rattle.std.proofs.Common.{◌<◌, ◌*◌, [], length, get_or, ap, arith}
use Rattle.spl_radical.proofs.RowSteps.{next_sum_from, number_at}
use Rattle.spl_radical.proofs.rows.added_rows.Goals as goal

pub loop-v-preserved : goal.loop-v-preserved
loop-v-preserved c =
    let a = c.args.a.now in
    let rows = c.args.rows.now in
    let v = c.loop-v.v in
    let u = c.args.u in
    let h : v < length rows = omega (arith, c.requires.long, c.loop-v-test.true) in
    record {
      small = c.added-sum.ensures.small;
      same = next_sum_from c.args.q c.args.first (λ v. get_or a v 0 * get_or (get_or rows v []) u 0) v c.loop-v.sum
          c.added-sum.result (get_or a v 0 * get_or c.as_slice.result.now u 0) c.loop-v.invariant.same
          c.added-sum.ensures.same (ap (λ x. get_or a v 0 * x)
          (number_at rows v u c.index-rows-v.result c.as_slice.result.now h c.index-rows-v.is c.as_slice.ensures));
    }
