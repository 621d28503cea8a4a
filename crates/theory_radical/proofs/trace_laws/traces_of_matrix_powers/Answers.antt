use Rattle.theory_radical.proofs.Chain.ChainLaws.{traces_of_matrix_powers}
use Rattle.theory_radical.proofs.trace_laws.traces_of_matrix_powers.Goals as goal

pub returns : goal.returns
returns g c = let r = g.R.CommutativeSetRing in traces_of_matrix_powers r.ring r.set
