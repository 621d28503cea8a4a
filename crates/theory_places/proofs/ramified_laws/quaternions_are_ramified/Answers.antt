use Rattle.theory_places.proofs.RamifiedPlaces.{quaternions_are_ramified}
use Rattle.theory_places.proofs.ramified_laws.quaternions_are_ramified.Goals as goal

pub returns : goal.returns
returns g c = let f = g.F.ProgramField in quaternions_are_ramified f.ops f.laws
