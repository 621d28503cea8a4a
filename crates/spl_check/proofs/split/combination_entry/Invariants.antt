use Rattle.std.proofs.Common.{◌≡◌}
use Rattle.theory_rings.specs.Ops.{IsElem}
use Rattle.theory_rings.specs.Sum.{sum_of, at}
use Rattle.theory_tables.specs.Conditions.{map_entry}
use Rattle.spl_check.proofs.split.combination_entry.Given as goal

abbrev pub invariant-loop-k : goal.invariant-loop-k
invariant-loop-k g l = let o = g.F.Field.ops l.f in record {
  elem : IsElem o l.total;
  value : l.total ≡ sum_of o l.k (λ k. o.mul (at o l.weights k) (map_entry o l.maps k l.r l.s));
}
