use Rattle.theory_rings.proofs.FiniteFields.ElementsByDigits.{one_digit_law}
use Rattle.theory_rings.proofs.number_laws.one_digit_law.Goals as goal

pub returns : goal.returns
returns c = one_digit_law
