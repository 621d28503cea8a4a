use Rattle.spl_field.specs.SmallField.{small_ops}
use Rattle.spl_numerators.specs.Constants.{AreConstantFractions}
use Rattle.spl_numerators.proofs.constants.constants_of.Given as goal

abbrev pub invariant-loop-i : goal.invariant-loop-i
invariant-loop-i l = AreConstantFractions (small_ops l.f) l.list l.i l.items
