use Rattle.std.proofs.Common.{length}
use Rattle.spl_field.specs.SmallField.{small_ops, small_laws}
use Rattle.theory_remainders.proofs.GcdLists.{HasSameGcds}
use Rattle.spl_factor.proofs.gcd.gcd.Given as goal

abbrev pub invariant-steps : goal.invariant-steps
invariant-steps l = HasSameGcds (small_ops l.f) (small_laws l.f) l.a l.b l.first l.second

abbrev pub decreases-steps : goal.decreases-steps
decreases-steps l = length l.second
