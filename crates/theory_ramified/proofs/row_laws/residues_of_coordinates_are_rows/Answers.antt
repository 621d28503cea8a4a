use Rattle.theory_ramified.proofs.RowConditions.{residues_are_rows}
use Rattle.theory_ramified.proofs.row_laws.residues_of_coordinates_are_rows.Goals as goal

pub returns : goal.returns
returns g c = let f = g.F.ProgramField in residues_are_rows f.ops f.laws
