use Rattle.theory_tables.proofs.Algebras.CentralSimple.{central_simple_by_trace_form}
use Rattle.theory_tables.proofs.laws.central_simple_by_trace_form.Goals as goal

pub returns : goal.returns
returns g c = record { simple = λ o L. central_simple_by_trace_form o L }
