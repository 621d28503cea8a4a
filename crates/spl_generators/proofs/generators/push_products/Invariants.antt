use Rattle.spl_generators.specs.Generated.{AreGenerated}
use Rattle.spl_generators.proofs.generators.push_products.Given as goal

abbrev pub invariant-loop-r : goal.invariant-loop-r
invariant-loop-r g l = AreGenerated (g.F.Field.ops l.f) l.a l.by l.more
