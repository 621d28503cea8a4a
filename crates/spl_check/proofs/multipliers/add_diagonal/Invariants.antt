use Rattle.std.proofs.Common.{◌≡◌, take}
use Rattle.theory_rings.specs.Ops.{IsElem}
use Rattle.theory_tables.specs.MultiplierSums.{diagonal_sum}
use Rattle.spl_check.proofs.multipliers.add_diagonal.Given as goal

abbrev pub invariant-loop-t : goal.invariant-loop-t
invariant-loop-t g l = let o = g.F.Field.ops l.f in record {
  elem : IsElem o l.total;
  value : l.total ≡ o.add l.fn.sum (diagonal_sum o l.algebra.dim (take l.t l.list));
}
