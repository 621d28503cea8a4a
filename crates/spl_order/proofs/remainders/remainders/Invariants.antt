use Rattle.spl_field.specs.SmallField.{small_ops}
use Rattle.spl_order.specs.Coordinates.{AreRemainders}
use Rattle.spl_order.proofs.remainders.remainders.Given as goal

abbrev pub invariant-loop-p : goal.invariant-loop-p
invariant-loop-p l = AreRemainders (small_ops l.f) l.m l.items l.p l.rest
