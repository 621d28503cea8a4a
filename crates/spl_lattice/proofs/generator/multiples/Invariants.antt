use Rattle.std.proofs.Common.{take}
use Rattle.std.specs.List.{All}
use Rattle.theory_rings.specs.Polynomial.{IsTrimmed}
use Rattle.spl_field.specs.SmallField.{small_ops}
use Rattle.spl_poly.specs.Operations.{IsOver}
use Rattle.spl_lattice.specs.Steps.{AreMultiples}
use Rattle.spl_lattice.proofs.generator.multiples.Given as goal

abbrev pub invariant-loop-item : goal.invariant-loop-item
invariant-loop-item l = let o = small_ops l.f in record {
  value : AreMultiples o l.u (take l.item-index l.items) l.products;
  over : All (IsOver o) l.products;
  trimmed : All (IsTrimmed 0) l.products;
}
