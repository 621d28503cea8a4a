use Rattle.theory_spaces.proofs.Forms.TraceForms.{trace_form_bilinear, trace_form_symmetric}
use Rattle.theory_spaces.proofs.form_laws.trace_forms.Goals as goal

pub returns-clause-bilinear : goal.returns-clause-bilinear
returns-clause-bilinear g c = let a = g.A.BasedAlgebra in
    trace_form_bilinear a.field.cring a.algebra a.dimension a.basis

pub returns-clause-symmetric : goal.returns-clause-symmetric
returns-clause-symmetric g c = let a = g.A.BasedAlgebra in
    trace_form_symmetric a.field.cring a.algebra a.dimension a.basis
