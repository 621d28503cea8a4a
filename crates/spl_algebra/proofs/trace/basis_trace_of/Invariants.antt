use Rattle.std.proofs.Common.{◌≡◌}
use Rattle.theory_rings.specs.Ops.{IsElem}
use Rattle.theory_rings.specs.Sum.{sum_of}
use Rattle.theory_spaces.specs.Tuples.{constant}
use Rattle.spl_algebra.proofs.trace.basis_trace_of.Given as goal

abbrev pub invariant-loop-j : goal.invariant-loop-j
invariant-loop-j g l = let o = g.F.Field.ops l.f in record {
  elem : IsElem o l.sum;
  value : l.sum ≡ sum_of o l.j (λ j. constant o l.m l.constants l.i j j);
}
