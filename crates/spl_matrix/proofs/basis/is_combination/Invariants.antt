use Rattle.std.proofs.Common.{◌≡◌, ℕ, ◌<◌, length}
use Rattle.theory_rings.specs.Sum.{sum_of, at}
use Rattle.theory_tables.specs.Matrix.{entry}
use Rattle.spl_matrix.proofs.basis.is_combination.Given as goal

abbrev pub invariant-loop-j : goal.invariant-loop-j
invariant-loop-j g l = let o = g.F.Field.ops l.f in
    (k : ℕ) → k < l.j → at o l.v k ≡ sum_of o (length l.rows) (λ i. o.mul (at o l.c i) (entry o l.rows i k))
