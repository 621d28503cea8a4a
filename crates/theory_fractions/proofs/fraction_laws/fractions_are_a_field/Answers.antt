use Rattle.theory_fractions.proofs.FractionField.{fraction_laws}
use Rattle.theory_fractions.proofs.fraction_laws.fractions_are_a_field.Goals as goal

pub returns : goal.returns
returns g c = let f = g.F.ProgramField in fraction_laws f.ops f.laws
