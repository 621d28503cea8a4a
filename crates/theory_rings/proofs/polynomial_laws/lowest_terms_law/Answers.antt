use Rattle.theory_rings.proofs.Polynomials.PolynomialLaws.{has_lowest_terms}
use Rattle.theory_rings.proofs.polynomial_laws.lowest_terms_law.Goals as goal

pub returns : goal.returns
returns g c = has_lowest_terms g.F.FieldStructure.field
