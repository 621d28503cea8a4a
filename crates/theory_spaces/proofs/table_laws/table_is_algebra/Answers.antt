use Rattle.theory_spaces.proofs.Tuples.TupleProducts.{tuple_algebra, tuple_algebra_is, tuple_basis}
use Rattle.theory_spaces.proofs.table_laws.table_is_algebra.Goals as goal

pub returns : goal.returns
returns g c = λ o L n cs one elements associative h. (
  tuple_algebra o L n cs elements one h associative,
  tuple_algebra_is o L n cs elements one h associative,
  tuple_basis o L n cs elements one h associative,
)
