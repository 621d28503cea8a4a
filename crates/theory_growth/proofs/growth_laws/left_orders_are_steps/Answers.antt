use Rattle.theory_growth.proofs.Elsewhere.{left_orders_are_steps}
use Rattle.theory_growth.proofs.growth_laws.left_orders_are_steps.Goals as goal

pub returns : goal.returns
returns g c = let f = g.F.ProgramField in left_orders_are_steps f.ops f.laws
