use Rattle.theory_swaps.proofs.FractionSwaps.{infinity_is_the_place_x}
use Rattle.theory_swaps.proofs.swap_laws.infinity_is_the_place_x.Goals as goal

pub returns : goal.returns
returns g c = let f = g.F.ProgramField in infinity_is_the_place_x f.ops f.laws
