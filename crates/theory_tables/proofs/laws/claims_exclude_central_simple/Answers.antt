use Rattle.theory_tables.proofs.Algebras.Exclusions.{claims_exclude}
use Rattle.theory_tables.proofs.laws.claims_exclude_central_simple.Goals as goal

pub returns : goal.returns
returns g c = record { excludes = λ o L. claims_exclude o L }
