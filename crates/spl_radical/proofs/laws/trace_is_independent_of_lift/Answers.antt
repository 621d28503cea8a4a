use Rattle.spl_radical.specs.LiftNumbers.{residues_of, level_of}
use Rattle.spl_radical.proofs.IndependentTraces.{independent_of_lift}
use Rattle.spl_radical.proofs.laws.trace_is_independent_of_lift.Goals as goal

pub returns : goal.returns
returns c = independent_of_lift (residues_of c.args.ring.now) (level_of c.args.ring.now) c.args.b.now c.requires.over
    c.args.a.now c.requires.element c.args.i
