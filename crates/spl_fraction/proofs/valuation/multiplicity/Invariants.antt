use Rattle.std.proofs.Common.{length}
use Rattle.spl_field.specs.SmallField.{small_ops, small_laws}
use Rattle.spl_fraction.proofs.Multiplicities.{IsPowerTimes}
use Rattle.spl_fraction.proofs.valuation.multiplicity.Given as goal

abbrev pub invariant-steps : goal.invariant-steps
invariant-steps l = IsPowerTimes (small_ops l.f) (small_laws l.f) l.m l.a l.rest l.count

abbrev pub decreases-steps : goal.decreases-steps
decreases-steps l = length l.rest
