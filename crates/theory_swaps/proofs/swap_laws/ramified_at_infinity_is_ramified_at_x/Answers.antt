use Rattle.theory_swaps.proofs.RamifiedPlaces.{ramified_at_infinity_at_x}
use Rattle.theory_swaps.proofs.swap_laws.ramified_at_infinity_is_ramified_at_x.Goals as goal

pub returns : goal.returns
returns g c = let f = g.F.ProgramField in ramified_at_infinity_at_x f.ops f.laws
