use Rattle.theory_lattices.proofs.Degree.FractionDegrees.{rational_degree, rational_degree-is}
use Rattle.theory_lattices.proofs.Common.RationalMembers.{constants_hom, power_of_x-zero, polynomials_of}
use Rattle.theory_lattices.proofs.Common.RationalMembers.{polynomials_closed}
use Rattle.theory_lattices.proofs.rational_laws.degree_of_rational_functions.Goals as goal

pub returns-clause-exists : goal.returns-clause-exists
returns-clause-exists g c =
    let q = g.Q.RationalFunctions in
    (rational_degree q.constants q.field q.fractions, rational_degree-is q.constants q.field q.fractions)

pub returns-clause-constants : goal.returns-clause-constants
returns-clause-constants g c =
    let q = g.Q.RationalFunctions in
    constants_hom q.constants q.field q.fractions (rational_degree q.constants q.field q.fractions)
    (rational_degree-is q.constants q.field q.fractions)

pub returns-clause-closed : goal.returns-clause-closed
returns-clause-closed g c =
    let q = g.Q.RationalFunctions in
    polynomials_closed q.constants q.field q.fractions (rational_degree q.constants q.field q.fractions)
    (rational_degree-is q.constants q.field q.fractions)

pub returns-clause-first : goal.returns-clause-first
returns-clause-first g c =
    let q = g.Q.RationalFunctions in
    power_of_x-zero q.constants q.field q.fractions (rational_degree q.constants q.field q.fractions)
    (rational_degree-is q.constants q.field q.fractions)

pub returns-clause-polynomials : goal.returns-clause-polynomials
returns-clause-polynomials g c = let q = g.Q.RationalFunctions in polynomials_of q.constants q.field q.fractions
