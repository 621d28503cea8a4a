use Rattle.spl_generators.specs.Generated.{Lies}
use Rattle.spl_generators.proofs.generators.closed.Given as goal

abbrev pub invariant-loop-round : goal.invariant-loop-round
invariant-loop-round g l = Lies (g.F.Field.ops l.f) l.a l.by l.space
