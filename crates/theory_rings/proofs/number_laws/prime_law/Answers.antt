use Rattle.theory_rings.proofs.Numbers.Fermat.{prime_law}
use Rattle.theory_rings.proofs.number_laws.prime_law.Goals as goal

pub returns : goal.returns
returns c = prime_law
