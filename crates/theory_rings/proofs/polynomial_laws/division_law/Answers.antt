use Rattle.theory_rings.proofs.Polynomials.PolynomialLaws.{has_division}
use Rattle.theory_rings.proofs.polynomial_laws.division_law.Goals as goal

pub returns : goal.returns
returns g c = has_division g.R.CommutativeRing.ring g.R.CommutativeRing.zero_test
