use Rattle.theory_radical.proofs.Words.PowersOfSums.{trace-power_congr}
use Rattle.theory_radical.proofs.trace_laws.traces_of_powers.Goals as goal

pub returns : goal.returns
returns g c = let r = g.R.TracedRing in trace-power_congr r.ring r.values r.map r.trace
