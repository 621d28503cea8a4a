use Rattle.theory_places.proofs.PlaceOrders.{finite_order, infinite_order}
use Rattle.theory_places.proofs.place_laws.valuations_at_places.Goals as goal

pub returns : goal.returns
returns g c =
    let q = g.Q.RationalFunctions in
    record {
      factors = λ m i V. finite_order q.constants q.field q.fractions m i.1 V;
      degrees = infinite_order q.constants q.field q.fractions;
    }
