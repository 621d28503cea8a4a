use Rattle.spl_algebra.specs.Multiples.{AddsMultiples}
use Rattle.spl_algebra.proofs.ideal.push_multiples.Given as goal

abbrev pub invariant-loop-i : goal.invariant-loop-i
invariant-loop-i g l = AddsMultiples (g.F.Field.ops l.f) l.m l.constants l.i l.a l.initial.rows l.rows
