use Rattle.std.specs.Prelude.{◌≡◌, [], get_or}
use Rattle.theory_rings.specs.Sum.{table}
use Rattle.spl_radical.proofs.rows.column_of.Given as goal

abbrev pub invariant-loop-r : goal.invariant-loop-r
invariant-loop-r l = l.out ≡ table l.r (λ r. get_or (get_or l.rows r []) l.t 0)
