use Rattle.theory_rings.proofs.Polynomials.PolynomialLaws.{has_remainder_rings}
use Rattle.theory_rings.proofs.polynomial_laws.remainder_ring_law.Goals as goal

pub returns : goal.returns
returns g c = has_remainder_rings g.R.CommutativeRing.ring g.R.CommutativeRing.zero_test
