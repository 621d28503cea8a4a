use Rattle.theory_places.proofs.FractionPlaces.{fraction_places}
use Rattle.theory_places.proofs.fraction_laws.fraction_places_are_valuation_rings.Goals as goal

pub returns : goal.returns
returns g c = let f = g.F.ProgramField in fraction_places f.ops f.laws
