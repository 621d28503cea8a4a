use Rattle.std.proofs.Common.{◌≡◌, ◌^◌}
use Rattle.theory_tables.specs.Structure.{IsElement}
use Rattle.spl_blocks.specs.Fixed.{power_in}
use Rattle.spl_blocks.proofs.powers.iterated_power.Given as goal

abbrev pub invariant-loop-i : goal.invariant-loop-i
invariant-loop-i g l = let o = g.F.Field.ops l.f in record {
  elem : IsElement o l.a l.x;
  value : l.x ≡ power_in o l.a l.z (l.q ^ l._i);
}
