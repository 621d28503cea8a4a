use Rattle.std.proofs.Common.{◌≡◌}
use Rattle.theory_rings.specs.Sum.{table}
use Rattle.std.proofs.Common.{cond, nat_eq}
use Rattle.spl_matrix.proofs.rows.identity_row.Given as goal

abbrev pub invariant-loop-l : goal.invariant-loop-l
invariant-loop-l g l = let o = g.F.Field.ops l.f in l.items ≡ table l.l (λ k. cond (nat_eq k l.i) o.one o.zero)
