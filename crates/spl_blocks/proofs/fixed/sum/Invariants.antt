use Rattle.std.proofs.Common.{◌≡◌}
use Rattle.theory_rings.specs.Sum.{table, at}
use Rattle.theory_spaces.specs.Tuples.{IsTuple}
use Rattle.spl_blocks.proofs.fixed.sum.Given as goal

abbrev pub invariant-loop-k : goal.invariant-loop-k
invariant-loop-k g l = let o = g.F.Field.ops l.f in record {
  elem : IsTuple o l.k l.items;
  value : l.items ≡ table l.k (λ k. o.add (at o l.x k) (at o l.y k));
}
