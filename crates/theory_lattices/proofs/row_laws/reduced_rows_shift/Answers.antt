use Rattle.theory_lattices.proofs.Rows.ReductionStep.{reduced_shift}
use Rattle.theory_lattices.proofs.row_laws.reduced_rows_shift.Goals as goal

pub returns : goal.returns
returns g c = let s = g.S.DegreeShift in reduced_shift s.source_degree s.target_degree s.shift s.map s.shifts
