use Rattle.theory_lattices.proofs.Common.FractionsOfPolynomials.{fractions_of_polynomials}
use Rattle.theory_lattices.proofs.rational_laws.rational_functions_are_fractions.Goals as goal

pub returns : goal.returns
returns g c = fractions_of_polynomials g.F.FieldStructure.field
