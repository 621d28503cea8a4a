use Rattle.theory_left_orders.proofs.FractionResidues.{polynomial_lattices_at_places}
use Rattle.theory_left_orders.proofs.fraction_laws.polynomial_lattices_at_places.Goals as goal

pub returns : goal.returns
returns g c = let f = g.F.ProgramField in polynomial_lattices_at_places f.ops f.laws
