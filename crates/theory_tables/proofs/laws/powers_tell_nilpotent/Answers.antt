use Rattle.theory_tables.proofs.Algebras.Powers.{nilpotent_by_powers}
use Rattle.theory_tables.proofs.laws.powers_tell_nilpotent.Goals as goal

pub returns : goal.returns
returns g c = record { powers = λ o L. nilpotent_by_powers o L }
