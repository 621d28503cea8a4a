use Rattle.theory_lattices.proofs.Degree.FractionDegrees.{polynomial_degree, polynomial_degree-is}
use Rattle.theory_lattices.proofs.Rows.PolynomialRows.{polynomial_euclidean}
use Rattle.theory_lattices.proofs.rational_laws.degree_of_polynomials.Goals as goal

pub returns-clause-exists : goal.returns-clause-exists
returns-clause-exists g c = let f = g.F.FieldStructure.field in (polynomial_degree f, polynomial_degree-is f)

pub returns-clause-euclidean : goal.returns-clause-euclidean
returns-clause-euclidean g c = polynomial_euclidean g.F.FieldStructure.field
