use Rattle.std.proofs.Common.{take}
use Rattle.std.specs.List.{All}
use Rattle.theory_rings.specs.Polynomial.{IsTrimmed}
use Rattle.spl_field.specs.SmallField.{small_ops}
use Rattle.spl_lattice.proofs.Combinations.{IsFound}
use Rattle.spl_lattice.proofs.generator.generator.Given as goal

abbrev pub invariant-loop-item : goal.invariant-loop-item
invariant-loop-item l = record {
  found : IsFound (small_ops l.f) (take l.item-index l.items) l.found.multipliers l.found.value;
  trimmed : All (IsTrimmed 0) l.found.multipliers;
}
