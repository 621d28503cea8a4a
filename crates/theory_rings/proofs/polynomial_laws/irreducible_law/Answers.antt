use Rattle.theory_rings.proofs.Polynomials.PolynomialLaws.{irreducible_is_prime}
use Rattle.theory_rings.proofs.polynomial_laws.irreducible_law.Goals as goal

pub returns : goal.returns
returns g c = irreducible_is_prime g.F.FieldStructure.field
