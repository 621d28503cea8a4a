use Rattle.theory_pairs.proofs.DegreeElements.{first_greatest, pair_natural, pair_element}
use Rattle.theory_pairs.proofs.degree_laws.degree_element.Goals as goal

pub returns-clause-exists : goal.returns-clause-exists
returns-clause-exists g c = let o = g.O.OrderPair in first_greatest o.size o.degrees

pub returns-clause-not_negative : goal.returns-clause-not_negative
returns-clause-not_negative g c = λ p.
    let o = g.O.OrderPair in
    pair_natural o.constants o.field o.degree o.Weight o.embed o.hom o.powers o.polynomials o.first o.algebra o.size
    o.Finite o.Infinite o.trace o.pair
    o.vec o.degrees o.basis o.dual o.pairing p.place p.within p.most

pub returns-clause-element : goal.returns-clause-element
returns-clause-element g c = λ p.
    let o = g.O.OrderPair in
    pair_element o.constants o.field o.degree o.Weight o.embed o.hom o.powers o.polynomials o.first o.algebra o.size
    o.Finite o.Infinite o.trace o.pair
    o.vec o.degrees o.basis o.dual o.pairing p.place p.within p.most

pub returns-clause-any_greatest : goal.returns-clause-any_greatest
returns-clause-any_greatest g c = λ i l most.
    let o = g.O.OrderPair in
    pair_element o.constants o.field o.degree o.Weight o.embed o.hom o.powers o.polynomials o.first o.algebra o.size
    o.Finite o.Infinite o.trace o.pair
    o.vec o.degrees o.basis o.dual o.pairing i l most
