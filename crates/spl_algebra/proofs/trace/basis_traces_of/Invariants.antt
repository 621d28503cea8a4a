use Rattle.std.proofs.Common.{◌≡◌}
use Rattle.theory_rings.specs.Sum.{table}
use Rattle.theory_spaces.specs.Tuples.{IsTuple}
use Rattle.spl_algebra.specs.Contractions.{basis_trace}
use Rattle.spl_algebra.proofs.trace.basis_traces_of.Given as goal

abbrev pub invariant-loop-i : goal.invariant-loop-i
invariant-loop-i g l = let o = g.F.Field.ops l.f in record {
  elem : IsTuple o l.i l.traces;
  value : l.traces ≡ table l.i (basis_trace o l.m l.constants);
}
