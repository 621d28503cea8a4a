use Rattle.theory_lattices.proofs.Duals.MiddleElements.{middle_exists}
use Rattle.theory_lattices.proofs.order_laws.middle_element.Goals as goal

pub returns : goal.returns
returns g c = λ E.
    let o = g.O.OrderPair in
    middle_exists o.constants E o.field o.degree o.Weight o.embed o.hom o.powers o.polynomials o.first o.algebra o.size
    o.Finite o.Infinite o.trace o.pair
    o.vec o.degrees o.basis o.dual o.pairing
