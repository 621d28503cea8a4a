use Rattle.theory_ramified.proofs.InfinityConditions.{conditions_at_infinity_at_x}
use Rattle.theory_ramified.proofs.infinity_laws.conditions_at_infinity_hold_at_x.Goals as goal

pub returns : goal.returns
returns g c = let f = g.F.ProgramField in conditions_at_infinity_at_x f.ops f.laws
