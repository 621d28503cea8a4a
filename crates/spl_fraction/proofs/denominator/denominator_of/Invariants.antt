use Rattle.theory_rings.specs.Polynomial.{IsTrimmed}
use Rattle.spl_field.specs.SmallField.{small_ops, small_laws}
use Rattle.theory_fractions.specs.PolynomialLists.{IsOver}
use Rattle.theory_fractions.proofs.CommonDenominators.{IsLeastOfFirst}
use Rattle.spl_fraction.proofs.denominator.denominator_of.Given as goal

abbrev pub invariant-loop-i : goal.invariant-loop-i
invariant-loop-i l = let o = small_ops l.f in record {
  over : IsOver o l.found;
  trimmed : IsTrimmed 0 l.found;
  least : IsLeastOfFirst o (small_laws l.f) l.i l.list l.found;
}
