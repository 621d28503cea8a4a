use Rattle.theory_ramified.proofs.RowConditions.{conditions_by_rows}
use Rattle.theory_ramified.proofs.row_laws.conditions_hold_by_rows.Goals as goal

pub returns : goal.returns
returns g c = let f = g.F.ProgramField in conditions_by_rows f.ops f.laws
