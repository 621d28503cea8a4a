use Rattle.std.proofs.Common.{length}
use Rattle.spl_factor.proofs.Quotients.{IsDividedOut}
use Rattle.spl_factor.proofs.gcd.divide_out.Given as goal

abbrev pub invariant-steps : goal.invariant-steps
invariant-steps l = IsDividedOut l.f l.fn.a l.b l.exponent l.rest

abbrev pub decreases-steps : goal.decreases-steps
decreases-steps l = length l.rest
