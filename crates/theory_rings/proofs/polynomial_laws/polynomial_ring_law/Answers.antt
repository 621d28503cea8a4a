use Rattle.theory_rings.proofs.Polynomials.PolynomialLaws.{has_polynomial_ring}
use Rattle.theory_rings.proofs.polynomial_laws.polynomial_ring_law.Goals as goal

pub returns : goal.returns
returns g c = has_polynomial_ring g.R.CommutativeRing.ring g.R.CommutativeRing.zero_test
