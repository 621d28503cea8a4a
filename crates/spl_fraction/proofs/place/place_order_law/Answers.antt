use Rattle.spl_fraction.proofs.PlaceOrders.{is_place_order}
use Rattle.spl_fraction.proofs.place.place_order_law.Goals as goal

pub returns : goal.returns
returns c = is_place_order c.order_law.ensures
