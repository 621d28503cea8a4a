use Rattle.std.proofs.Common.{◌≡◌}
use Rattle.theory_rings.specs.Ops.{IsElem}
use Rattle.theory_rings.specs.Sum.{sum_of, at}
use Rattle.theory_tables.specs.Matrix.{entry}
use Rattle.spl_matrix.proofs.basis.combined_item.Given as goal

abbrev pub invariant-loop-i : goal.invariant-loop-i
invariant-loop-i g l = let o = g.F.Field.ops l.f in record {
  elem : IsElem o l.sum;
  value : l.sum ≡ sum_of o l.i (λ i. o.mul (at o l.c i) (entry o l.rows i l.j));
}
