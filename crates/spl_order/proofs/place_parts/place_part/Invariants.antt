use Rattle.std.proofs.Common.{◌-◌, length}
use Rattle.spl_field.specs.SmallField.{small_ops, small_laws}
use Rattle.theory_left_orders.proofs.IntegralQuotients.{IsPowerIn}
use Rattle.spl_order.proofs.place_parts.place_part.Given as goal

abbrev pub invariant-steps : goal.invariant-steps
invariant-steps l = IsPowerIn (small_ops l.f) (small_laws l.f) l.m l.s l.part

abbrev pub decreases-steps : goal.decreases-steps
decreases-steps l = length l.s - length l.part
