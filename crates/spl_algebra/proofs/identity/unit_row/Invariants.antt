use Rattle.std.proofs.Common.{◌≡◌}
use Rattle.theory_rings.specs.Sum.{table}
use Rattle.theory_spaces.specs.Tuples.{IsTuple}
use Rattle.spl_algebra.specs.IdentitySystem.{unit_item}
use Rattle.spl_algebra.proofs.identity.unit_row.Given as goal

abbrev pub invariant-loop-c : goal.invariant-loop-c
invariant-loop-c g l = let o = g.F.Field.ops l.f in record {
  elem : IsTuple o l.c l.items;
  value : l.items ≡ table l.c (unit_item o l.m);
}
