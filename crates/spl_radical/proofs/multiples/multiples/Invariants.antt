use Rattle.spl_radical.specs.Multiples.{AreMultiples}
use Rattle.spl_radical.proofs.multiples.multiples.Given as goal

abbrev pub invariant-loop-r : goal.invariant-loop-r
invariant-loop-r l = AreMultiples l.q l.w l.back l.turns l.rows l.out l.r
