use Rattle.std.specs.Prelude.{◌≡◌, length}
use Rattle.theory_rings.specs.Sum.{table}
use Rattle.theory_chains.specs.NumberRows.{shifted_number}
use Rattle.spl_radical.proofs.rows.shifted.Given as goal

abbrev pub invariant-loop-k : goal.invariant-loop-k
invariant-loop-k l = l.out ≡ table l.k (shifted_number l.q (length l.back) l.back l.row)
