use Rattle.theory_places.proofs.PlaceResidues.{polynomials}
use Rattle.theory_places.proofs.place_laws.polynomials_among_fractions.Goals as goal

pub returns : goal.returns
returns g c = let q = g.Q.RationalFunctions in polynomials q.constants q.field q.fractions
