use Rattle.spl_factor.proofs.Splits.{AreTried}
use Rattle.spl_factor.proofs.splitting.splitting_element.Given as goal

abbrev pub invariant-loop : goal.invariant-loop
invariant-loop l = AreTried l.f l.degree l.g l.counter l.z
