use Rattle.theory_tables.proofs.Algebras.Quotients.{quotient_law}
use Rattle.theory_tables.proofs.laws.quotients_keep_laws.Goals as goal

pub returns : goal.returns
returns g c = record { keeps = λ o L. quotient_law o L }
