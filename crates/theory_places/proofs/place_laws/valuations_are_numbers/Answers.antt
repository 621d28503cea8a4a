use Rattle.theory_places.proofs.DiscreteValuations.{are_valuations}
use Rattle.theory_places.proofs.place_laws.valuations_are_numbers.Goals as goal

pub returns : goal.returns
returns g c = let a = g.P.Place in are_valuations a.field a.valuation a.p a.q a.uniformizer a.strict
