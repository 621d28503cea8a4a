use Rattle.theory_pairs.proofs.CornerTables.{corner_basis_of, corner_constants, corner_table}
use Rattle.theory_pairs.proofs.corner_laws.corner_by_constants.Goals as goal

pub returns-clause-basis : goal.returns-clause-basis
returns-clause-basis g c = λ e idem.
    let a = g.A.AlgebraAndSpace in corner_basis_of a.field a.algebra e idem a.dimension a.basis

pub returns-clause-constants : goal.returns-clause-constants
returns-clause-constants g c = λ e idem k U.
    let a = g.A.AlgebraAndSpace in corner_constants a.field a.algebra e idem k U

pub returns-clause-table : goal.returns-clause-table
returns-clause-table g c = λ e idem k U D N S.
    let a = g.A.AlgebraAndSpace in corner_table a.field a.algebra e idem k U D N S
