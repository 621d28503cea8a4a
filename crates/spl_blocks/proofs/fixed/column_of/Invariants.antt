use Rattle.std.proofs.Common.{◌≡◌}
use Rattle.theory_rings.specs.Sum.{table}
use Rattle.theory_spaces.specs.Tuples.{IsTuple}
use Rattle.theory_tables.specs.Matrix.{entry}
use Rattle.spl_blocks.proofs.fixed.column_of.Given as goal

abbrev pub invariant-loop-i : goal.invariant-loop-i
invariant-loop-i g l = let o = g.F.Field.ops l.f in record {
  elem : IsTuple o l.i l.items;
  value : l.items ≡ table l.i (λ i. entry o l.rows i l.j);
}
