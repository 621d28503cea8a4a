use Rattle.std.specs.Prelude.{◌≡◌, length}
use Rattle.theory_rings.specs.Sum.{table}
use Rattle.theory_chains.specs.NumberRows.{turned_number}
use Rattle.spl_radical.proofs.rows.turned.Given as goal

abbrev pub invariant-loop-k : goal.invariant-loop-k
invariant-loop-k l = l.out ≡ table l.k (turned_number l.q l.w (length l.turns) l.turns l.row)
