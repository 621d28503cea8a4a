use Rattle.theory_radical.proofs.Lifts.IntegerLifts.{integers_lift}
use Rattle.theory_radical.proofs.lift_laws.integers_are_lift_rings.Goals as goal

pub returns : goal.returns
returns c = integers_lift
