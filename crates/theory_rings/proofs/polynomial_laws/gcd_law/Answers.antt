use Rattle.theory_rings.proofs.Polynomials.PolynomialLaws.{has_gcd}
use Rattle.theory_rings.proofs.polynomial_laws.gcd_law.Goals as goal

pub returns : goal.returns
returns g c = has_gcd g.F.FieldStructure.field
