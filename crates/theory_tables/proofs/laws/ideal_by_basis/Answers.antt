use Rattle.theory_tables.proofs.Algebras.SpannedIdeals.{ideal_by_basis}
use Rattle.theory_tables.proofs.laws.ideal_by_basis.Goals as goal

pub returns : goal.returns
returns g c = record { ideal = λ o L. ideal_by_basis o L }
