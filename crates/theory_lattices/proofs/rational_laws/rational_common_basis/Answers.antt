use Rattle.theory_spaces.specs.Lattice.{LatticeOver}
use Rattle.theory_lattices.specs.RationalFunctions.{IsPolynomial, of_constant, power_of_x}
use Rattle.theory_lattices.specs.CommonBasis.{InInfinite}
use Rattle.theory_lattices.proofs.Common.RationalMembers.{polynomials_of}
use Rattle.theory_lattices.proofs.Common.Intersections.{intersection_basis}
use Rattle.theory_lattices.proofs.Common.RationalBases as bases
use Rattle.theory_lattices.proofs.rational_laws.rational_common_basis.Goals as goal

pub returns-clause-exists : goal.returns-clause-exists
returns-clause-exists g c =
    let s = g.S.RationalSpace in
    bases.rational_common_basis s.constants s.field s.fractions s.degree s.rational_degree s.space s.size s.coords

pub returns-clause-intersection : goal.returns-clause-intersection
returns-clause-intersection g c = λ f e b a B.
    let s = g.S.RationalSpace in
    intersection_basis s.field s.degree (IsPolynomial s.constants) s.constants.ring (of_constant s.constants)
    (power_of_x s.constants)
    (polynomials_of s.constants s.field s.fractions s.degree s.rational_degree) s.space s.size
    (LatticeOver s.space (IsPolynomial s.constants) s.size f)
    (InInfinite s.field s.degree s.space (IsPolynomial s.constants) s.size e) b a B
