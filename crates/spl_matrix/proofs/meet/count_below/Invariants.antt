use Rattle.std.proofs.Common.{ℕ, ◌<◌, get_or}
use Rattle.spl_matrix.proofs.meet.count_below.Given as goal

abbrev pub invariant-loop-s : goal.invariant-loop-s
invariant-loop-s l = (k : ℕ) → k < l.s → get_or l.indices k 0 < l.w
