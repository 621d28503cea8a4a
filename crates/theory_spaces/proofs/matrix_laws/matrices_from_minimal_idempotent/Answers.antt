use Rattle.theory_spaces.proofs.Algebras.MinimalIdempotents.{one_through, multiplier-mul, left_ideal_basis}
use Rattle.theory_spaces.proofs.Matrices.LeftMatrices.{left_matrices, dimension_square}
use Rattle.theory_spaces.proofs.matrix_laws.matrices_from_minimal_idempotent.Goals as goal

pub returns-clause-one : goal.returns-clause-one
returns-clause-one g c = λ simple e. let a = g.A.BasedAlgebra in one_through a.algebra a.dimension a.basis e simple

pub returns-clause-multiplications : goal.returns-clause-multiplications
returns-clause-multiplications g c = λ e h o s k. multiplier-mul g.A.BasedAlgebra.algebra e h.idempotent s k h.corner o

pub returns-clause-left_ideal : goal.returns-clause-left_ideal
returns-clause-left_ideal g c = let a = g.A.BasedAlgebra in left_ideal_basis a.field a.algebra a.dimension a.basis

pub returns-clause-matrices : goal.returns-clause-matrices
returns-clause-matrices g c = λ simple e h.
    let a = g.A.BasedAlgebra in
    left_matrices a.field a.algebra e h (one_through a.algebra a.dimension a.basis e simple h.nonzero)

pub returns-clause-dimension : goal.returns-clause-dimension
returns-clause-dimension g c = λ simple e h k W.
    let a = g.A.BasedAlgebra in
    dimension_square a.field a.algebra e h
    (one_through a.algebra a.dimension a.basis e simple h.nonzero) k W a.dimension a.basis
