use Rattle.theory_division.proofs.NoDivisionRing as division
use Rattle.theory_division.proofs.division_laws.no_division_ring.Goals as goal

pub returns : goal.returns
returns g c = λ E. let a = g.A.BasedAlgebra in division.no_division_ring a.field E a.algebra a.dimension a.basis
