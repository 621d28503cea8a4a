use Rattle.std.proofs.Common.{◌≡◌, ℕ, ◌<◌, ◌≤◌}
use Rattle.theory_rings.specs.Sum.{at}
use Rattle.spl_matrix.proofs.solve.find_nonzero.Given as goal

abbrev pub invariant-loop-i : goal.invariant-loop-i
invariant-loop-i g l = let o = g.F.Field.ops l.f in
    (k : ℕ) → l.r ≤ k → k < l.i → at o l.v k ≡ o.zero
