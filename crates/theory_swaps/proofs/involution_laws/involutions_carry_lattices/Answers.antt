use Rattle.theory_swaps.proofs.CarriedLattices.{involutions_carry_lattices, involutions_carry_orders}
use Rattle.theory_swaps.proofs.involution_laws.involutions_carry_lattices.Goals as goal

pub returns-clause-lattices : goal.returns-clause-lattices
returns-clause-lattices g c =
    let f = g.F.MappedField in involutions_carry_lattices f.ops f.laws f.map f.Weight f.ImageWeight

pub returns-clause-orders : goal.returns-clause-orders
returns-clause-orders g c =
    let f = g.F.MappedField in involutions_carry_orders f.ops f.laws f.map f.Weight f.ImageWeight
