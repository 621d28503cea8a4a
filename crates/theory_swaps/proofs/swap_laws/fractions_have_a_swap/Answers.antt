use Rattle.theory_swaps.proofs.FractionSwaps.{has_fraction_swap}
use Rattle.theory_swaps.proofs.swap_laws.fractions_have_a_swap.Goals as goal

pub returns : goal.returns
returns g c = let f = g.F.ProgramField in has_fraction_swap f.ops f.laws
