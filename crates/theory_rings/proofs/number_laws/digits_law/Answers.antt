use Rattle.theory_rings.proofs.Numbers.Digits.{digits_law}
use Rattle.theory_rings.proofs.number_laws.digits_law.Goals as goal

pub returns : goal.returns
returns c = digits_law
