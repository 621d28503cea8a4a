use Rattle.theory_lattices.proofs.Common.CommonBases as bases
use Rattle.theory_lattices.proofs.lattice_laws.common_basis.Goals as goal

pub returns : goal.returns
returns g c = let s = g.S.DegreeSpace in bases.common_basis s.field s.degree s.space s.Weight s.size s.coords
