use Rattle.theory_fractions.proofs.RationalFractions.{fractions_are_rational}
use Rattle.theory_fractions.proofs.fraction_laws.fractions_are_rational_functions.Goals as goal

pub returns : goal.returns
returns g c = let f = g.F.ProgramField in fractions_are_rational f.ops f.laws
