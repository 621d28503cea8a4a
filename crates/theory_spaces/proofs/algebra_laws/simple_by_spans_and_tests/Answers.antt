use Rattle.theory_spaces.proofs.Algebras.SimpleTests.{simple_to_tests, simple_of_tests}
use Rattle.theory_spaces.proofs.algebra_laws.simple_by_spans_and_tests.Goals as goal

pub returns : goal.returns
returns g c =
    let a = g.A.BasedAlgebra in
    (simple_to_tests a.field a.algebra a.dimension a.basis, simple_of_tests a.field a.algebra a.dimension a.basis)
