use Rattle.theory_growth.proofs.Quotients.{ideals_by_quotients}
use Rattle.theory_growth.proofs.ideal_laws.maximal_ideals_have_simple_quotients.Goals as goal

pub returns : goal.returns
returns g c = λ o L A. ideals_by_quotients o L A
