use Rattle.std.proofs.Common.{◌≡◌, take}
use Rattle.spl_field.specs.SmallField.{small_ops}
use Rattle.spl_poly.specs.Operations.{IsOver}
use Rattle.spl_fraction.proofs.reading.polynomial_of_numbers.Given as goal

-- the numbers so far are elements
abbrev pub invariant-loop-number : goal.invariant-loop-number
invariant-loop-number l = record {
  same : l.coefficients ≡ take l.number-index l.items;
  over : IsOver (small_ops l.f) l.coefficients;
}
