use Rattle.spl_generators.specs.Generated.{IsGenerated}
use Rattle.spl_generators.proofs.generators.generators.Given as goal

abbrev pub invariant-loop-j : goal.invariant-loop-j
invariant-loop-j g l = IsGenerated (g.F.Field.ops l.f) l.a l.j l.found.by l.found.space
