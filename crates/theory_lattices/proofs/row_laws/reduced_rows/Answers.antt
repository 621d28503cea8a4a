use Rattle.theory_lattices.proofs.Rows.Reduction.{reduction}
use Rattle.theory_lattices.proofs.Rows.ReducedBases.{reduced_basis}
use Rattle.theory_lattices.proofs.row_laws.reduced_rows.Goals as goal

pub returns-clause-weak_popov : goal.returns-clause-weak_popov
returns-clause-weak_popov g c = let e = g.E.EuclideanRing in reduction e.degree e.euclidean

pub returns-clause-reduced : goal.returns-clause-reduced
returns-clause-reduced g c = λ w. let e = g.E.EuclideanRing in reduced_basis e.degree w e.euclidean
