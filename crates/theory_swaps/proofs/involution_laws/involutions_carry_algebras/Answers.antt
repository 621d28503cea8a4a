use Rattle.theory_swaps.proofs.CarriedAlgebras.{involutions_carry_algebras}
use Rattle.theory_swaps.proofs.involution_laws.involutions_carry_algebras.Goals as goal

pub returns : goal.returns
returns g c = let f = g.F.MappedField in involutions_carry_algebras f.ops f.laws f.map
