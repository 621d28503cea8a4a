use Rattle.theory_lattices.proofs.Rows.PredictableDegrees as rows
use Rattle.theory_lattices.proofs.row_laws.predictable_degrees.Goals as goal

pub returns-clause-predicted : goal.returns-clause-predicted
returns-clause-predicted g c = rows.predicted g.D.DegreeRing.degree

pub returns-clause-weights : goal.returns-clause-weights
returns-clause-weights g c = rows.weights_below g.D.DegreeRing.degree

pub returns-clause-sums : goal.returns-clause-sums
returns-clause-sums g c = rows.sum_below g.D.DegreeRing.degree

pub returns-clause-independent : goal.returns-clause-independent
returns-clause-independent g c = rows.only_zero g.D.DegreeRing.degree
