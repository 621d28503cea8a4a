use Rattle.std.proofs.Common.{IfOk, IsTrue, ◌↔◌, sym, subst}
use Rattle.spl_field.specs.SmallField.{small_ops, small_laws}
use Rattle.spl_fraction.specs.Fractions.{field_of}
use Rattle.spl_fraction.specs.FractionsOver.{fractions_over}
use Rattle.theory_places.specs.FractionPlaces.{IsIntegralAt}
use Rattle.theory_bases.specs.TupleLattices.{SpanOrder}
use Rattle.theory_bases.specs.Bases.{tuples_of}
use Rattle.spl_fraction.specs.Place.{place_of}
use Rattle.spl_order.proofs.orders_at.is_order_at.Goals as goal

pub returns-in-Finite : goal.returns-in-Finite
returns-in-Finite c =
    let F = field_of c.args.f.now in
    subst (λ x. IfOk c.is_order_at_finite.result (λ r. IsTrue r ↔ SpanOrder (fractions_over F) c.args.a.now
    (IsIntegralAt (small_ops F) (place_of x)) (tuples_of (small_ops F) (small_laws F) c.args.order.now)))
    (sym c.in-Finite.is) c.is_order_at_finite.ensures

pub returns-in-Infinity : goal.returns-in-Infinity
returns-in-Infinity c =
    let F = field_of c.args.f.now in
    subst (λ x. IfOk c.is_order_at_infinity.result (λ r. IsTrue r ↔ SpanOrder (fractions_over F) c.args.a.now
    (IsIntegralAt (small_ops F) (place_of x)) (tuples_of (small_ops F) (small_laws F) c.args.order.now)))
    (sym c.in-Infinity.is) c.is_order_at_infinity.ensures
