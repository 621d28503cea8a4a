use Rattle.theory_tables.proofs.Split.SplitCentralSimple.{split_is_central_simple}
use Rattle.theory_tables.proofs.split_laws.split_is_central_simple.Goals as goal

pub returns : goal.returns
returns g c = record { simple = λ o L. split_is_central_simple o L }
