use Rattle.std.proofs.Common.{ℕ, ◌<◌}
use Rattle.spl_algebra.specs.Triple.{AssociatesAtPair}
use Rattle.spl_algebra.proofs.algebra.Algebra.first_failed_triple.Given as goal

abbrev pub invariant-loop-i : goal.invariant-loop-i
invariant-loop-i g l = (i j : ℕ) → i < l.i → j < l.self.dim → AssociatesAtPair (g.F.Field.ops l.f) l.self i j
