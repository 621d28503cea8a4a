use Rattle.theory_lattices.proofs.Rows.ReductionStep.{lead_of, step_lower}
use Rattle.theory_lattices.proofs.row_laws.reduction_step.Goals as goal

pub returns-clause-leads : goal.returns-clause-leads
returns-clause-leads g c = lead_of g.D.DegreeRing.degree

pub returns-clause-lower : goal.returns-clause-lower
returns-clause-lower g c = step_lower g.D.DegreeRing.degree
