use Rattle.theory_spaces.proofs.Algebras.Simple.{central_simple}
use Rattle.theory_spaces.proofs.algebra_laws.central_simple.Goals as goal

pub returns : goal.returns
returns g c = let a = g.A.BasedAlgebra in central_simple a.field a.algebra a.dimension a.basis
