use Rattle.theory_places.proofs.RamifiedPlaces.{ramified_place_excludes}
use Rattle.theory_places.proofs.ramified_laws.ramified_place_excludes_split.Goals as goal

pub returns : goal.returns
returns g c = let f = g.F.ProgramField in ramified_place_excludes f.ops f.laws
