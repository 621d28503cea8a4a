use Rattle.spl_algebra.specs.Multiples.{HoldsMultiples}
use Rattle.spl_algebra.proofs.ideal.with_multiples.Given as goal

abbrev pub invariant-loop-r : goal.invariant-loop-r
invariant-loop-r g l = HoldsMultiples (g.F.Field.ops l.f) l.m l.constants l.r l.fn.rows l.more
