use Rattle.spl_lattice.specs.Reduction.{LeadsSoFar}
use Rattle.spl_lattice.proofs.positions.leading_position.Given as goal

abbrev pub invariant-loop-j : goal.invariant-loop-j
invariant-loop-j l = LeadsSoFar l.j l.row l.best
