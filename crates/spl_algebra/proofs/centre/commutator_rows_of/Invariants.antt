use Rattle.std.proofs.Common.{◌≡◌, ◌/◌, ◌%◌}
use Rattle.theory_rings.specs.Sum.{table}
use Rattle.theory_tables.specs.Matrix.{IsMatrix}
use Rattle.spl_algebra.specs.Contractions.{commutator_item}
use Rattle.spl_algebra.proofs.centre.commutator_rows_of.Given as goal

abbrev pub invariant-loop-r : goal.invariant-loop-r
invariant-loop-r g l = let o = g.F.Field.ops l.f in record {
  shape : IsMatrix o l.m l.rows;
  value : l.rows ≡ table l.r (λ r. table l.m (commutator_item o l.m l.constants (r / l.m) (r % l.m)));
}
