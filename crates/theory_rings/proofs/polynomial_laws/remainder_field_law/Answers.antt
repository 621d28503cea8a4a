use Rattle.theory_rings.proofs.Polynomials.PolynomialLaws.{has_remainder_fields}
use Rattle.theory_rings.proofs.polynomial_laws.remainder_field_law.Goals as goal

pub returns : goal.returns
returns g c = has_remainder_fields g.F.FieldStructure.field
