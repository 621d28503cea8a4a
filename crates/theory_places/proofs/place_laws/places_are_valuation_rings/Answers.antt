use Rattle.theory_places.proofs.PlaceValuations.{place_valuation}
use Rattle.theory_places.proofs.place_laws.places_are_valuation_rings.Goals as goal

pub returns : goal.returns
returns g c = let q = g.Q.RationalFunctions in place_valuation q.constants q.field q.fractions
