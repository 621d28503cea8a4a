use Rattle.std.proofs.Common.{◌≡◌, ◌+◌, ◌*◌}
use Rattle.theory_rings.specs.Sum.{table}
use Rattle.theory_tables.specs.Matrix.{IsMatrix}
use Rattle.spl_algebra.specs.IdentitySystem.{constant_row}
use Rattle.spl_algebra.proofs.identity.system.Given as goal

abbrev pub invariant-loop-i : goal.invariant-loop-i
invariant-loop-i g l = let o = g.F.Field.ops l.f in record {
  shape : IsMatrix o (l.m * l.m + l.m * l.m) l.rows;
  value : l.rows ≡ table l.i (constant_row o l.m l.constants);
}
