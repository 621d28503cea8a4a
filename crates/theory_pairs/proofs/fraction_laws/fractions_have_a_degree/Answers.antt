use Rattle.theory_pairs.proofs.FractionLattices.{fractions_have_degree, fractions_have_polynomials}
use Rattle.theory_pairs.proofs.fraction_laws.fractions_have_a_degree.Goals as goal

pub returns-clause-exists : goal.returns-clause-exists
returns-clause-exists g c = λ o L M. fractions_have_degree o L M

pub returns-clause-polynomials : goal.returns-clause-polynomials
returns-clause-polynomials g c = λ o L M. fractions_have_polynomials o L M
