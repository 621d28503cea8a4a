use Rattle.theory_division.proofs.Nonunits as nonunits
use Rattle.theory_division.proofs.division_laws.nonunit_exists.Goals as goal

pub returns : goal.returns
returns g c = λ E. let a = g.A.BasedAlgebra in nonunits.nonunit_exists a.field E a.algebra a.dimension a.basis
