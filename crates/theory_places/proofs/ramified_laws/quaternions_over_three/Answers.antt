use Rattle.theory_places.proofs.RamifiedPlaces.{quaternions_over_three}
use Rattle.theory_places.proofs.ramified_laws.quaternions_over_three.Goals as goal

pub returns : goal.returns
returns c = quaternions_over_three
