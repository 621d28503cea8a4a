use Rattle.theory_lattices.proofs.Common.CommonBases.{in_both, both_in}
use Rattle.theory_lattices.proofs.Common.Intersections.{intersection_basis}
use Rattle.theory_lattices.proofs.lattice_laws.intersection.Goals as goal

pub returns-clause-weights : goal.returns-clause-weights
returns-clause-weights g c = let l = g.L.LatticePair in
    in_both l.field l.degree l.space l.Weight l.size l.Finite l.Infinite l.vec l.degrees l.basis

pub returns-clause-members : goal.returns-clause-members
returns-clause-members g c = let l = g.L.LatticePair in
    both_in l.field l.degree l.space l.Weight l.size l.Finite l.Infinite l.vec l.degrees l.basis

pub returns-clause-basis : goal.returns-clause-basis
returns-clause-basis g c =
    let l = g.L.LatticePair in
    intersection_basis l.field l.degree l.Weight l.constants l.embed l.powers l.polynomials l.space l.size l.Finite
    l.Infinite l.vec l.degrees l.basis
