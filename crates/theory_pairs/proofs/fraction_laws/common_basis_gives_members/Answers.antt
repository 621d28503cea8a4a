use Rattle.theory_pairs.proofs.FractionLattices.{basis_gives_members}
use Rattle.theory_pairs.proofs.fraction_laws.common_basis_gives_members.Goals as goal

pub returns : goal.returns
returns g c = record { members = λ o L M. basis_gives_members o L M }
