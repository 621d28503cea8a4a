use Rattle.theory_rings.proofs.FiniteFields.ElementsByDigits.{field_by_digits_law}
use Rattle.theory_rings.proofs.number_laws.field_by_digits_law.Goals as goal

pub returns : goal.returns
returns c = field_by_digits_law
