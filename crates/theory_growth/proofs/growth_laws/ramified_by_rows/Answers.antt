use Rattle.theory_growth.proofs.RamifiedRows.{ramified_by_rows}
use Rattle.theory_growth.proofs.growth_laws.ramified_by_rows.Goals as goal

pub returns : goal.returns
returns g c = let f = g.F.ProgramField in ramified_by_rows f.ops f.laws
