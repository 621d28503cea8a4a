use Rattle.theory_rings.proofs.Numbers.Fermat.{fermat}
use Rattle.theory_rings.proofs.number_laws.fermat_law.Goals as goal

pub returns : goal.returns
returns c = fermat
