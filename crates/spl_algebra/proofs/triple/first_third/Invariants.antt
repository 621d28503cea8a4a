use Rattle.std.proofs.Common.{ℕ, ◌<◌}
use Rattle.theory_tables.specs.Structure.{AssociatesAt}
use Rattle.spl_algebra.proofs.triple.first_third.Given as goal

abbrev pub invariant-loop-k : goal.invariant-loop-k
invariant-loop-k g l = (k : ℕ) → k < l.k → AssociatesAt (g.F.Field.ops l.f) l.a l.i l.j k
