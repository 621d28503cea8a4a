use Rattle.theory_rings.proofs.Polynomials.PolynomialLaws.{evaluation_is_hom}
use Rattle.theory_rings.proofs.polynomial_laws.evaluation_law.Goals as goal

pub returns : goal.returns
returns g c = evaluation_is_hom g.R.CommutativeRing.ring g.R.CommutativeRing.zero_test g.S.CommutativeRing.ring
