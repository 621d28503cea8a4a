use Rattle.std.proofs.Common.{◌≡◌, ℕ, ◌<◌}
use Rattle.theory_rings.specs.Sum.{at}
use Rattle.spl_algebra.proofs.products.same.Given as goal

abbrev pub invariant-loop-k : goal.invariant-loop-k
invariant-loop-k g l = let o = g.F.Field.ops l.f in (j : ℕ) → j < l.k → at o l.a j ≡ at o l.b j
