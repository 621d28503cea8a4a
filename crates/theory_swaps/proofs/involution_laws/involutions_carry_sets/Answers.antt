use Rattle.theory_swaps.proofs.CarriedSets.{involutions_carry_sets}
use Rattle.theory_swaps.proofs.involution_laws.involutions_carry_sets.Goals as goal

pub returns : goal.returns
returns g c = let f = g.F.MappedField in involutions_carry_sets f.ops f.laws f.map f.Order f.Ideal
