use Rattle.std.proofs.Common.{◌≡◌}
use Rattle.theory_rings.specs.Ops.{IsElem}
use Rattle.theory_rings.specs.Sum.{sum_of}
use Rattle.theory_tables.specs.Matrix.{entry}
use Rattle.spl_check.proofs.split.product_entry.Given as goal

abbrev pub invariant-loop-t : goal.invariant-loop-t
invariant-loop-t g l = let o = g.F.Field.ops l.f in record {
  elem : IsElem o l.total;
  value : l.total ≡ sum_of o l.t (λ t. o.mul (entry o l.a l.r t) (entry o l.b t l.s));
}
