use Rattle.std.proofs.Common.{◌≡◌}
use Rattle.theory_rings.specs.Ops.{IsElem}
use Rattle.theory_tables.specs.Matrix.{dot}
use Rattle.spl_matrix.proofs.rows.dot_of.Given as goal

abbrev pub invariant-loop-i : goal.invariant-loop-i
invariant-loop-i g l = let o = g.F.Field.ops l.f in record {
  elem : IsElem o l.sum;
  value : l.sum ≡ dot o l.i l.a l.b;
}
