use Rattle.std.proofs.Common.{below_more}
use Rattle.spl_numerators.proofs.triple.first_pair.Goals as goal

pub loop-j-preserved : goal.loop-j-preserved
loop-j-preserved c = below_more _ _ c.loop-j.invariant (rw c.in-None.is at c.in_ok-k.ensures)
