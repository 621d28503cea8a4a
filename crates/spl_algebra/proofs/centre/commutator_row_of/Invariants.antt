use Rattle.std.proofs.Common.{◌≡◌}
use Rattle.theory_rings.specs.Sum.{table}
use Rattle.theory_spaces.specs.Tuples.{IsTuple}
use Rattle.spl_algebra.specs.Contractions.{commutator_item}
use Rattle.spl_algebra.proofs.centre.commutator_row_of.Given as goal

abbrev pub invariant-loop-j : goal.invariant-loop-j
invariant-loop-j g l = let o = g.F.Field.ops l.f in record {
  elem : IsTuple o l.j l.row;
  value : l.row ≡ table l.j (commutator_item o l.m l.constants l.i l.k);
}
