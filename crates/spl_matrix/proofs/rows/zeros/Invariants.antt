use Rattle.std.proofs.Common.{◌≡◌}
use Rattle.theory_rings.specs.Sum.{table}
use Rattle.spl_matrix.proofs.rows.zeros.Given as goal

abbrev pub invariant-loop-l : goal.invariant-loop-l
invariant-loop-l g l = let o = g.F.Field.ops l.f in l.items ≡ table l._l (λ _. o.zero)
