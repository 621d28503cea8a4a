use Rattle.theory_spaces.proofs.Tuples.TupleProducts.{product_assoc}
use Rattle.theory_spaces.proofs.table_laws.associative_by_basis.Goals as goal

pub returns : goal.returns
returns g c = product_assoc
