use Rattle.theory_tables.proofs.Split.Examples.{zero_maps_split_nothing}
use Rattle.theory_tables.proofs.split_laws.zero_maps_split_nothing.Goals as goal

pub returns : goal.returns
returns g c = record { nothing = λ o L. zero_maps_split_nothing o L }
