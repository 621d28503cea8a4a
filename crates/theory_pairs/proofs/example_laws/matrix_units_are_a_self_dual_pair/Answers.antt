use Rattle.theory_pairs.proofs.MatrixPairs.{matrix_pair}
use Rattle.theory_pairs.proofs.example_laws.matrix_units_are_a_self_dual_pair.Goals as goal

pub returns-clause-any : goal.returns-clause-any
returns-clause-any g c = λ n A H.
    let s = g.D.DegreeField in matrix_pair s.field n A H s.degree s.Weight s.subring

pub returns-clause-two : goal.returns-clause-two
returns-clause-two g c = λ A H.
    let s = g.D.DegreeField in
    let m = matrix_pair s.field 2 A H s.degree s.Weight s.subring in
    let u = m.units in
    (m, u.basis)
