use Rattle.theory_lattices.specs.RationalFunctions.{IsPolynomial, of_constant, power_of_x}
use Rattle.theory_lattices.proofs.Common.RationalMembers.{constants_hom, power_of_x-zero, polynomials_of}
use Rattle.theory_lattices.proofs.Duals.MiddleElements.{middle_exists}
use Rattle.theory_lattices.proofs.rational_laws.rational_middle_element.Goals as goal

pub returns : goal.returns
returns g c =
    let o = g.O.RationalOrderPair in
    middle_exists o.constants o.members o.field o.degree (IsPolynomial o.constants) (of_constant o.constants)
    (constants_hom o.constants o.field o.fractions o.degree o.rational_degree) (power_of_x o.constants)
    (polynomials_of o.constants o.field o.fractions o.degree o.rational_degree)
    (power_of_x-zero o.constants o.field o.fractions o.degree o.rational_degree)
    o.algebra o.size o.Finite o.Infinite o.trace o.pair o.vec o.degrees o.basis o.dual o.pairing
