use Rattle.std.proofs.Common.{◌≡◌, length}
use Rattle.theory_rings.specs.Sum.{table}
use Rattle.theory_tables.specs.Matrix.{IsMatrix, entry}
use Rattle.spl_blocks.proofs.fixed.columns_of.Given as goal

abbrev pub invariant-loop-j : goal.invariant-loop-j
invariant-loop-j g l = let o = g.F.Field.ops l.f in record {
  shape : IsMatrix o (length l.rows) l.out;
  value : l.out ≡ table l.j (λ j. table (length l.rows) (λ i. entry o l.rows i j));
}
