use Rattle.std.proofs.Common.{◌≡◌, ◌*◌, ◌/◌, ◌%◌}
use Rattle.theory_rings.specs.Sum.{table}
use Rattle.theory_tables.specs.Matrix.{IsMatrix}
use Rattle.spl_algebra.specs.TwoSided.{map_coordinates}
use Rattle.spl_algebra.proofs.two_sided.map_rows.Given as goal

abbrev pub invariant-loop-t : goal.invariant-loop-t
invariant-loop-t g l = let o = g.F.Field.ops l.f in record {
  shape : IsMatrix o (l.m * l.m) l.rows;
  value : l.rows ≡ table l.t (λ t. map_coordinates o l.m l.constants (t / l.m) (t % l.m));
}
