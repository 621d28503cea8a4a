use Rattle.spl_algebra.proofs.Multipliers.{ListsBelow}
use Rattle.spl_algebra.proofs.identity.listed.Given as goal

abbrev pub invariant-loop-s : goal.invariant-loop-s
invariant-loop-s g l = let o = g.F.Field.ops l.f in ListsBelow o l.m l.items l.s l.list
