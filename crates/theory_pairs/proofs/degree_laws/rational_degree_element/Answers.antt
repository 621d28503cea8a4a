use Rattle.theory_lattices.specs.RationalFunctions.{IsPolynomial, of_constant, power_of_x}
use Rattle.theory_lattices.proofs.Common.RationalMembers.{constants_hom, power_of_x-zero, polynomials_of}
use Rattle.theory_pairs.proofs.DegreeElements.{first_greatest, pair_natural, pair_element}
use Rattle.theory_pairs.proofs.degree_laws.rational_degree_element.Goals as goal

pub returns-clause-exists : goal.returns-clause-exists
returns-clause-exists g c = let o = g.O.RationalOrderPair in first_greatest o.size o.degrees

pub returns-clause-not_negative : goal.returns-clause-not_negative
returns-clause-not_negative g c = λ p.
    let o = g.O.RationalOrderPair in
    pair_natural o.constants o.field o.degree (IsPolynomial o.constants) (of_constant o.constants)
    (constants_hom o.constants o.field o.fractions o.degree o.rational_degree)
    (power_of_x o.constants) (polynomials_of o.constants o.field o.fractions o.degree o.rational_degree)
    (power_of_x-zero o.constants o.field o.fractions o.degree o.rational_degree)
    o.algebra o.size o.Finite o.Infinite o.trace o.pair o.vec o.degrees o.basis o.dual o.pairing p.place p.within p.most

pub returns-clause-element : goal.returns-clause-element
returns-clause-element g c = λ p.
    let o = g.O.RationalOrderPair in
    pair_element o.constants o.field o.degree (IsPolynomial o.constants) (of_constant o.constants)
    (constants_hom o.constants o.field o.fractions o.degree o.rational_degree)
    (power_of_x o.constants) (polynomials_of o.constants o.field o.fractions o.degree o.rational_degree)
    (power_of_x-zero o.constants o.field o.fractions o.degree o.rational_degree)
    o.algebra o.size o.Finite o.Infinite o.trace o.pair o.vec o.degrees o.basis o.dual o.pairing p.place p.within p.most
