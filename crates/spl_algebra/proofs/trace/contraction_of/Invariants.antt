use Rattle.std.proofs.Common.{◌≡◌, ◌*◌, length}
use Rattle.theory_rings.specs.Sum.{table}
use Rattle.theory_tables.specs.Matrix.{IsMatrix}
use Rattle.spl_algebra.specs.Contractions.{contracted_row}
use Rattle.spl_algebra.proofs.trace.contraction_of.Given as goal

abbrev pub invariant-loop-r : goal.invariant-loop-r
invariant-loop-r g l = let o = g.F.Field.ops l.f in record {
  shape : IsMatrix o (length l.a) l.rows;
  value : l.rows ≡ table l.r (λ r. contracted_row o (length l.a) l.a l.constants (r * l.down) l.along l.stride);
}
