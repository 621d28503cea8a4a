use Rattle.theory_rows.proofs.Positions.{predicted_degree, reduced_independent}
use Rattle.theory_rows.proofs.lattice_laws.degrees_are_predictable.Goals as goal

pub returns-clause-degrees : goal.returns-clause-degrees
returns-clause-degrees g c = λ w rows places ws x hm hp hc hx e.
    predicted_degree g.F.ProgramField.ops g.F.ProgramField.laws w rows places hm hp ws x hc hx e

pub returns-clause-independent : goal.returns-clause-independent
returns-clause-independent g c = λ w rows places hm hp.
    reduced_independent g.F.ProgramField.ops g.F.ProgramField.laws w rows places hm hp
