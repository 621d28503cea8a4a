use Rattle.theory_rings.proofs.FiniteFields.RingByDigits.{digits_are_remainders_law}
use Rattle.theory_rings.proofs.number_laws.digits_are_remainders_law.Goals as goal

pub returns : goal.returns
returns c = digits_are_remainders_law
