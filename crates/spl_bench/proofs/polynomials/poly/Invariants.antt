use Rattle.spl_field.specs.SmallField.{small_ops}
use Rattle.spl_poly.specs.Operations.{IsOver}
use Rattle.spl_bench.proofs.polynomials.poly.Given as goal

abbrev pub invariant-loop : goal.invariant-loop
invariant-loop l = IsOver (small_ops l.f) l.items.items
