use Rattle.theory_rings.proofs.Rings.Fields.{field_set}
use Rattle.theory_spaces.proofs.Matrices.MatrixAlgebra.{matrix_algebra, matrix_algebra_is, matrix_units}
use Rattle.theory_spaces.proofs.Matrices.MatrixAlgebra.{matrices_central_simple, matrices_one-ne-zero}
use Rattle.theory_spaces.proofs.matrix_laws.matrices_are_central_simple.Goals as goal

pub returns-clause-algebra : goal.returns-clause-algebra
returns-clause-algebra g c = λ n.
    let f = g.F.BaseField.field in (matrix_algebra f.cring (field_set f) n, matrix_algebra_is f.cring (field_set f) n)

pub returns-clause-units : goal.returns-clause-units
returns-clause-units g c = let f = g.F.BaseField.field in matrix_units f.cring (field_set f)

pub returns-clause-central_simple : goal.returns-clause-central_simple
returns-clause-central_simple g c = matrices_central_simple g.F.BaseField.field

pub returns-clause-nonzero : goal.returns-clause-nonzero
returns-clause-nonzero g c = matrices_one-ne-zero g.F.BaseField.field
