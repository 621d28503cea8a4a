use Rattle.theory_pairs.proofs.LocalOrders.{local_members, order_at, order_everywhere}
use Rattle.theory_pairs.proofs.place_laws.orders_are_local.Goals as goal

pub returns-clause-members : goal.returns-clause-members
returns-clause-members g c =
    let r = g.R.RingOfPlaces in
    local_members r.field r.Weight r.valuation r.intersection r.algebra r.dimension r.basis

pub returns-clause-order : goal.returns-clause-order
returns-clause-order g c =
    let r = g.R.RingOfPlaces in (
      order_at r.field r.Weight r.valuation r.intersection r.algebra r.dimension r.basis,
      order_everywhere r.field r.Weight r.valuation r.intersection r.algebra r.dimension r.basis,
    )
