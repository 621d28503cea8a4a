use Rattle.std.proofs.Common.{◌≡◌, [], cond, nat_eq}
use Rattle.theory_rings.specs.Sum.{table}
use Rattle.spl_order.proofs.units.unit_row.Given as goal

abbrev pub invariant-loop-k : goal.invariant-loop-k
invariant-loop-k l = l.row ≡ table l.k (λ k. cond (nat_eq k l.i) l.c [])
