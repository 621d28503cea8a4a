use Rattle.std.proofs.Common.{◌≡◌, ◌+◌, ◌*◌, length}
use Rattle.theory_rings.specs.Sum.{table}
use Rattle.theory_spaces.specs.Tuples.{IsTuple}
use Rattle.spl_algebra.specs.Contractions.{contracted}
use Rattle.spl_algebra.proofs.trace.contracted_row_of.Given as goal

abbrev pub invariant-loop-j : goal.invariant-loop-j
invariant-loop-j g l = let o = g.F.Field.ops l.f in record {
  elem : IsTuple o l.j l.row;
  value : l.row ≡ table l.j (λ j. contracted o (length l.a) l.a l.constants (l.start + j * l.along) l.stride);
}
