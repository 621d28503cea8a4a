use Rattle.std.proofs.Common.{◌≡◌, get_or}
use Rattle.theory_rings.specs.Sum.{table}
use Rattle.theory_spaces.specs.Tuples.{basis}
use Rattle.theory_tables.specs.Matrix.{IsMatrix}
use Rattle.spl_algebra.proofs.quotient.unit_rows.Given as goal

abbrev pub invariant-loop-i : goal.invariant-loop-i
invariant-loop-i g l = let o = g.F.Field.ops l.f in record {
  shape : IsMatrix o l.m l.rows;
  value : l.rows ≡ table l.i (λ i. basis o l.m (get_or l.places i 0));
}
