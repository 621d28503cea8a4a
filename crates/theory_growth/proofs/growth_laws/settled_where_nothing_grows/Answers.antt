use Rattle.theory_growth.proofs.Settled.{settled_where_nothing_grows}
use Rattle.theory_growth.proofs.growth_laws.settled_where_nothing_grows.Goals as goal

pub returns : goal.returns
returns g c = let f = g.F.ProgramField in settled_where_nothing_grows f.ops f.laws
