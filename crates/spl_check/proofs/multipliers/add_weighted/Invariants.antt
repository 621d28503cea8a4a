use Rattle.std.proofs.Common.{◌≡◌, take, cond}
use Rattle.theory_rings.specs.Ops.{IsElem}
use Rattle.theory_spaces.specs.Tuples.{constant}
use Rattle.theory_tables.specs.MultiplierSums.{weighted_sum}
use Rattle.spl_check.proofs.multipliers.add_weighted.Given as goal

abbrev pub invariant-loop-t : goal.invariant-loop-t
invariant-loop-t g l = let o = g.F.Field.ops l.f in record {
  elem : IsElem o l.total;
  value : l.total ≡ o.add l.fn.sum (weighted_sum o l.algebra.dim (take l.t l.list) (λ j k. cond l.is_left
      (constant o l.algebra.dim l.algebra.constants l.i j k) (constant o l.algebra.dim l.algebra.constants j l.i k)));
}
