use Rattle.std.proofs.Common.{◌≡◌, length}
use Rattle.spl_field.specs.SmallField.{small_ops}
use Rattle.theory_tables.specs.Matrix.{IsMatrix}
use Rattle.spl_bench.proofs.matrices.matrix.Given as goal

abbrev pub invariant-loop : goal.invariant-loop
invariant-loop l = record {
  shape : IsMatrix (small_ops l.f) l.width l.rows;
  height : length l.rows ≡ l.counter;
}
