use Rattle.theory_ramified.proofs.Conditions.{conditions_on_radical}
use Rattle.theory_ramified.proofs.condition_laws.conditions_say_the_radical.Goals as goal

pub returns : goal.returns
returns g c = let f = g.F.ProgramField in conditions_on_radical f.ops f.laws
