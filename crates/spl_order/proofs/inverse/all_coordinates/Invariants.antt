use Rattle.spl_field.specs.SmallField.{small_ops}
use Rattle.spl_order.specs.Values.{AreUnitCoordinates}
use Rattle.spl_order.proofs.inverse.all_coordinates.Given as goal

abbrev pub invariant-loop-i : goal.invariant-loop-i
invariant-loop-i l = AreUnitCoordinates (small_ops l.f) l.reduced.basis l.n l.d l.i l.rows
