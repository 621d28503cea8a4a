use Rattle.std.proofs.Common.{◌≡◌, ◌++◌, [], get_or, cond, nat_lt}
use Rattle.theory_rings.specs.Sum.{table}
use Rattle.spl_matrix.proofs.meet.doubled_of.Given as goal

abbrev pub invariant-loop-i : goal.invariant-loop-i
invariant-loop-i g l =
    l.out.items ≡ table l.i (λ i. get_or l.rows i [] ++ cond (nat_lt i l.p) (get_or l.rows i []) l.zeros)
