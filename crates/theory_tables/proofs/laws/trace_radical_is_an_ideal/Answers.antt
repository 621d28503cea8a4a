use Rattle.theory_tables.proofs.Algebras.TraceRadical.{trace_radical}
use Rattle.theory_tables.proofs.laws.trace_radical_is_an_ideal.Goals as goal

pub returns : goal.returns
returns g c = record { radical = λ o L. trace_radical o L }
