use Rattle.theory_pairs.proofs.DualsAtPlaces.{dual_at, self_dual_iff}
use Rattle.theory_pairs.proofs.place_laws.duals_at_places.Goals as goal

pub returns-clause-dual : goal.returns-clause-dual
returns-clause-dual g c = λ v D.
    let a = g.A.PlacedAlgebra in dual_at a.field a.valuation a.algebra a.dimension a.basis v D

pub returns-clause-own_dual : goal.returns-clause-own_dual
returns-clause-own_dual g c = λ v N i.
    let a = g.A.PlacedAlgebra in self_dual_iff a.field a.valuation a.algebra a.dimension a.basis v N i
