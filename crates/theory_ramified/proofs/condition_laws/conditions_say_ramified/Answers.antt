use Rattle.theory_ramified.proofs.Conditions.{conditions_are_ramified}
use Rattle.theory_ramified.proofs.condition_laws.conditions_say_ramified.Goals as goal

pub returns : goal.returns
returns g c = let f = g.F.ProgramField in conditions_are_ramified f.ops f.laws
