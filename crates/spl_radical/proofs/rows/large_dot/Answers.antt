use Rattle.std.proofs.Common.{refl, ◌*◌, get_or}
use Rattle.spl_radical.proofs.RowSteps.{next_sum}
use Rattle.spl_radical.proofs.rows.large_dot.Goals as goal

pub loop-r-preserved : goal.loop-r-preserved
loop-r-preserved c = record {
  small = c.added-sum.ensures.small;
  same = next_sum c.args.q (λ r. get_or c.args.a.now r 0 * get_or c.args.b.now r 0) c.loop-r.r c.loop-r.sum
      c.added-sum.result (get_or c.args.a.now c.loop-r.r 0 * get_or c.args.b.now c.loop-r.r 0)
      c.loop-r.invariant.same c.added-sum.ensures.same refl;
}
