use Rattle.std.proofs.Common.{ℕ, ◌<◌}
use Rattle.spl_algebra.specs.Triple.{AssociatesAtPair}
use Rattle.spl_algebra.proofs.triple.first_pair.Given as goal

abbrev pub invariant-loop-j : goal.invariant-loop-j
invariant-loop-j g l = (j : ℕ) → j < l.j → AssociatesAtPair (g.F.Field.ops l.f) l.a l.i j
