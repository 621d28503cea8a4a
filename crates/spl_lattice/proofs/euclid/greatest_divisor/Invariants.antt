use Rattle.std.proofs.Common.{length}
use Rattle.spl_field.specs.SmallField.{small_ops}
use Rattle.spl_lattice.proofs.GreatestDivisors.{IsEuclid}
use Rattle.spl_lattice.proofs.euclid.greatest_divisor.Given as goal

abbrev pub invariant-steps : goal.invariant-steps
invariant-steps l = IsEuclid
    (small_ops l.f) l.a l.b l.first.value l.first.left l.first.right l.second.value l.second.left l.second.right

abbrev pub decreases-steps : goal.decreases-steps
decreases-steps l = length l.second.value
