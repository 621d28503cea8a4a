use Rattle.std.specs.Prelude.{◌≡◌, [], length, get_or}
use Rattle.theory_rings.specs.Sum.{table}
use Rattle.spl_radical.proofs.rows.columns_of.Given as goal

abbrev pub invariant-loop-t : goal.invariant-loop-t
invariant-loop-t l = l.out ≡ table l.t (λ t. table (length l.rows) (λ r. get_or (get_or l.rows r []) t 0))
