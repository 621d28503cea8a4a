use Rattle.std.proofs.Common.{◌≡◌, ◌/◌, ◌%◌, [], length, get_or}
use Rattle.theory_rings.specs.Sum.{table}
use Rattle.theory_spaces.specs.Tuples.{product}
use Rattle.theory_tables.specs.Matrix.{IsMatrix}
use Rattle.spl_algebra.proofs.power.product_rows.Given as goal

abbrev pub invariant-loop-t : goal.invariant-loop-t
invariant-loop-t g l = let o = g.F.Field.ops l.f in record {
  shape : IsMatrix o l.m l.rows;
  value : l.rows ≡ table l.t
      (λ t. product o l.m l.constants (get_or l.a (t / length l.b) []) (get_or l.b (t % length l.b) []));
}
