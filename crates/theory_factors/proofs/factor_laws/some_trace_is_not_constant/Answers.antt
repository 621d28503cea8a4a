use Rattle.theory_factors.proofs.Traces.{some_trace_is_not_constant}
use Rattle.theory_factors.proofs.factor_laws.some_trace_is_not_constant.Goals as goal

pub returns : goal.returns
returns g c = let f = g.F.FieldStructure in λ E. some_trace_is_not_constant f.field E
