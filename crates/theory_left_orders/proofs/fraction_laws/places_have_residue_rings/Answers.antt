use Rattle.theory_left_orders.proofs.FractionResidues.{places_have_residue_rings}
use Rattle.theory_left_orders.proofs.fraction_laws.places_have_residue_rings.Goals as goal

pub returns : goal.returns
returns g c = let f = g.F.ProgramField in places_have_residue_rings f.ops f.laws
