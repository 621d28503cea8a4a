use Rattle.theory_rings.proofs.Polynomials.PolynomialLaws.{has_rational_functions}
use Rattle.theory_rings.proofs.polynomial_laws.rational_functions_law.Goals as goal

pub returns : goal.returns
returns g c = has_rational_functions g.F.FieldStructure.field
