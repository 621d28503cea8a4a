use Rattle.spl_generators.specs.Generated.{AreGenerated}
use Rattle.spl_generators.proofs.generators.with_products.Given as goal

abbrev pub invariant-loop-s : goal.invariant-loop-s
invariant-loop-s g l = AreGenerated (g.F.Field.ops l.f) l.a l.by l.more
