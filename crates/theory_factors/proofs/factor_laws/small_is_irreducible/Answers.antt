use Rattle.theory_factors.proofs.Parts.{small_is_irreducible}
use Rattle.theory_factors.proofs.factor_laws.small_is_irreducible.Goals as goal

pub returns : goal.returns
returns g c = let f = g.F.FieldStructure in small_is_irreducible f.field
