use Rattle.theory_fractions.proofs.FractionValues.{are_fraction_ops}
use Rattle.theory_fractions.proofs.fraction_laws.fractions_have_their_operations.Goals as goal

pub returns : goal.returns
returns g c = let f = g.F.ProgramField in are_fraction_ops f.ops f.laws
