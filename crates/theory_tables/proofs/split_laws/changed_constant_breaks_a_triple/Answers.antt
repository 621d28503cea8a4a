use Rattle.theory_tables.proofs.Split.Examples.{triple_differs, twice_differs}
use Rattle.theory_tables.proofs.split_laws.changed_constant_breaks_a_triple.Goals as goal

pub returns : goal.returns
returns g c = record { any = λ o L. triple_differs o L; two = λ o L. twice_differs o L }
