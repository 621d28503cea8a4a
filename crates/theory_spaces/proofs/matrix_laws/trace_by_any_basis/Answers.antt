use Rattle.theory_spaces.specs.Module.{module_of}
use Rattle.theory_spaces.proofs.Linear.BasisChange.{map_trace_basis, trace_basis}
use Rattle.theory_spaces.proofs.matrix_laws.trace_by_any_basis.Goals as goal

pub returns-clause-of_map : goal.returns-clause-of_map
returns-clause-of_map g c = λ n B. let a = g.A.BasedAlgebra in
    map_trace_basis a.field.cring (module_of a.algebra) a.dimension n a.basis B

pub returns-clause-of_element : goal.returns-clause-of_element
returns-clause-of_element g c = λ n B. let a = g.A.BasedAlgebra in
    trace_basis a.field.cring a.algebra a.dimension n a.basis B
