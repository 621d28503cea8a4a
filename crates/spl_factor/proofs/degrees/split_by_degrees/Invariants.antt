use Rattle.std.proofs.Common.{length, ◌-◌}
use Rattle.spl_factor.proofs.Parts.{IsAtDegree}
use Rattle.spl_factor.proofs.degrees.split_by_degrees.Given as goal

abbrev pub invariant-degrees : goal.invariant-degrees
invariant-degrees l = IsAtDegree l.f l.fn.a l.degree l.work.rest l.work.list.items l.power

abbrev pub decreases-degrees : goal.decreases-degrees
decreases-degrees l = length l.work.rest - l.degree
