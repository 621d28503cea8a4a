use Rattle.std.proofs.Common.{◌≡◌, ◌+◌}
use Rattle.theory_rings.specs.Sum.{table}
use Rattle.theory_tables.specs.Matrix.{entry}
use Rattle.spl_matrix.proofs.echelon.columns_of.Given as goal

abbrev pub invariant-loop-i : goal.invariant-loop-i
invariant-loop-i g l = let o = g.F.Field.ops l.f in
    l.out.items ≡ table l.i (λ i. table l.count (λ j. entry o l.rows i (l.from + j)))
