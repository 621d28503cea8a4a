use Rattle.std.proofs.Common.{ℕ, ◌<◌}
use Rattle.theory_rings.specs.Sum.{at}
use Rattle.theory_spaces.specs.Tuples.{IsTuple}
use Rattle.theory_tables.specs.Solve.{IsScattered}
use Rattle.spl_matrix.proofs.solve.scattered.Given as goal

abbrev pub invariant-loop-j : goal.invariant-loop-j
invariant-loop-j g l = let o = g.F.Field.ops l.f in record {
  elem : IsTuple o l.j l.items;
  value : (k : ℕ) → k < l.j → IsScattered o l.pivots l.c k (at o l.items k);
}
