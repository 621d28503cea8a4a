use Rattle.std.proofs.Common.{length}
use Rattle.spl_factor.specs.Steps.{IsMonicGcd, IsNext}
use Rattle.spl_factor.proofs.degrees.take_degree.Given as goal

abbrev pub invariant-steps : goal.invariant-steps
invariant-steps l = record {
  next : IsNext l.f l.fn.work.rest l.fn.work.list.items l.work.rest l.work.list.items;
  gcd : IsMonicGcd l.f l.work.rest l.difference l.part;
}

abbrev pub decreases-steps : goal.decreases-steps
decreases-steps l = length l.work.rest
