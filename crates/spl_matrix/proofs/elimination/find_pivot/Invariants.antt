use Rattle.std.proofs.Common.{◌≡◌, ℕ, ◌<◌, ◌≤◌}
use Rattle.theory_tables.specs.Matrix.{entry}
use Rattle.spl_matrix.proofs.elimination.find_pivot.Given as goal

abbrev pub invariant-loop-i : goal.invariant-loop-i
invariant-loop-i g l = let o = g.F.Field.ops l.f in
    (k : ℕ) → l.r ≤ k → k < l.i → entry o l.rows k l.col ≡ o.zero
