use Rattle.theory_factors.proofs.Traces.{traces_are_fixed}
use Rattle.theory_factors.proofs.factor_laws.traces_are_fixed.Goals as goal

pub returns : goal.returns
returns g c = let f = g.F.FieldStructure in λ E. traces_are_fixed f.field E
