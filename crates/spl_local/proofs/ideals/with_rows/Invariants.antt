use Rattle.std.proofs.Common.{◌≡◌, ◌++◌, take}
use Rattle.theory_tables.specs.Matrix.{IsMatrix}
use Rattle.spl_local.proofs.ideals.with_rows.Given as goal

abbrev pub invariant-loop-i : goal.invariant-loop-i
invariant-loop-i g l = record {
  shape : IsMatrix (g.F.Field.ops l.f) l.w l.rows;
  value : l.rows ≡ l.initial.rows ++ take l.i l.more;
}
