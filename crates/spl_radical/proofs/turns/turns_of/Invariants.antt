use Rattle.spl_radical.specs.Multiples.{AreTurns}
use Rattle.spl_radical.proofs.turns.turns_of.Given as goal

abbrev pub invariant-loop-v : goal.invariant-loop-v
invariant-loop-v l = AreTurns l.q l.back l.fn.first l.out l.v
