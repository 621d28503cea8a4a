use Rattle.theory_tables.proofs.Split.Examples.{matrices_are_split, matrices_split_claim}
use Rattle.theory_tables.proofs.split_laws.matrices_are_split.Goals as goal

pub returns : goal.returns
returns g c = record { split = λ o L. matrices_are_split o L; claim = λ o L. matrices_split_claim o L }
