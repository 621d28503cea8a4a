use Rattle.spl_factor.proofs.Traces.{AreTerms}
use Rattle.spl_factor.proofs.powers.trace.Given as goal

abbrev pub invariant-loop : goal.invariant-loop
invariant-loop l = AreTerms l.f l.m l.z l.counter l.power l.total
