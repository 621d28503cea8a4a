use Rattle.std.proofs.Common.{◌≡◌}
use Rattle.theory_rings.specs.Sum.{table, at}
use Rattle.theory_spaces.specs.Tuples.{IsTuple}
use Rattle.spl_algebra.proofs.identity.opposite.Given as goal

abbrev pub invariant-loop-i : goal.invariant-loop-i
invariant-loop-i g l = let o = g.F.Field.ops l.f in record {
  elem : IsTuple o l.i l.opposite;
  value : l.opposite ≡ table l.i (λ i. o.neg (at o l.items i));
}
