use Rattle.theory_lattices.proofs.Duals.DualBases as bases
use Rattle.theory_lattices.proofs.order_laws.dual_common_basis.Goals as goal

pub returns : goal.returns
returns g c =
    let o = g.O.OrderPair in
    bases.dual_common_basis o.constants o.field o.degree o.Weight o.embed o.hom o.powers o.polynomials o.first o.algebra
    o.size o.Finite o.Infinite o.trace o.pair
    o.vec o.degrees o.basis o.dual o.pairing
