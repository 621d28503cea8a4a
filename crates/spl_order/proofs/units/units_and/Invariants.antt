use Rattle.std.proofs.Common.{◌≡◌}
use Rattle.theory_rings.specs.Sum.{table}
use Rattle.spl_order.specs.Values.{scaled_unit}
use Rattle.spl_order.proofs.units.units_and.Given as goal

abbrev pub invariant-loop-i : goal.invariant-loop-i
invariant-loop-i l = l.rows ≡ table l.i (scaled_unit l.c l.n)
