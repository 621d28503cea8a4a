use Rattle.theory_fractions.proofs.LowestTerms.{elem_iff_lowest}
use Rattle.theory_fractions.proofs.fraction_laws.fractions_are_lowest_terms.Goals as goal

pub returns : goal.returns
returns g c = let f = g.F.ProgramField in elem_iff_lowest f.ops f.laws
