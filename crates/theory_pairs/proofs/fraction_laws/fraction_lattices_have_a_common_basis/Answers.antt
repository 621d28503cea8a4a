use Rattle.theory_pairs.proofs.FractionLattices.{lattices_have_common_basis}
use Rattle.theory_pairs.proofs.fraction_laws.fraction_lattices_have_a_common_basis.Goals as goal

pub returns : goal.returns
returns g c = record { exists = λ o L M. lattices_have_common_basis o L M }
