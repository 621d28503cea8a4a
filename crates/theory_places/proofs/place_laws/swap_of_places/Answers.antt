use Rattle.theory_places.proofs.PlaceResidues.{has_swap}
use Rattle.theory_places.proofs.place_laws.swap_of_places.Goals as goal

pub returns : goal.returns
returns g c = let q = g.Q.RationalFunctions in has_swap q.constants q.field q.fractions
