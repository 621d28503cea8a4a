use Rattle.std.proofs.Common.{◌≡◌}
use Rattle.theory_rings.specs.Sum.{table}
use Rattle.theory_spaces.specs.Tuples.{IsTuple}
use Rattle.spl_algebra.specs.TwoSided.{map_coordinate}
use Rattle.spl_algebra.proofs.two_sided.map_row.Given as goal

abbrev pub invariant-loop-s : goal.invariant-loop-s
invariant-loop-s g l = let o = g.F.Field.ops l.f in record {
  elem : IsTuple o l.s l.row;
  value : l.row ≡ table l.s (map_coordinate o l.m l.constants l.i l.j);
}
