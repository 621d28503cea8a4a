use Rattle.theory_lattices.proofs.Duals.MiddleElements.{middle_or_flat}
use Rattle.theory_lattices.proofs.order_laws.degree_count.Goals as goal

pub returns : goal.returns
returns g c =
    let o = g.O.OrderPair in
    middle_or_flat o.constants o.field o.degree o.Weight o.embed o.hom o.powers o.polynomials o.first o.algebra o.size
    o.Finite o.Infinite o.trace o.pair
    o.vec o.degrees o.basis o.dual o.pairing
