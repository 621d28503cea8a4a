use Rattle.std.proofs.Common.{sym, subst}
use Rattle.spl_field.specs.SmallField.{small_ops, small_laws}
use Rattle.spl_fraction.specs.Fractions.{field_of}
use Rattle.theory_bases.specs.Bases.{IsBasis, tuples_of}
use Rattle.spl_order.proofs.InfiniteOrders.{variable_place, infinite_order}
use Rattle.spl_order.proofs.orders_at.is_order_at_infinity.Goals as goal

pub is_order_at_finite-requires-clause-order : goal.is_order_at_finite-requires-clause-order
is_order_at_finite-requires-clause-order c =
    let F = field_of c.args.f.now in
    subst (λ n. IsBasis (small_ops F) (small_laws F) n c.in_ok-swapped.swapped) (sym c.in_ok-algebra.ensures.dim)
    (c.in_ok-swapped.ensures.basis c.args.a.now.dim c.requires.order)

pub is_order_at_finite-requires-clause-place : goal.is_order_at_finite-requires-clause-place
is_order_at_finite-requires-clause-place c =
    let F = field_of c.args.f.now in
    variable_place (small_ops F) (small_laws F) c.in_ok-place.place c.in_ok-place.ensures.value

pub returns : goal.returns
returns c =
    let F = field_of c.args.f.now in
    let o = small_ops F in
    let L = small_laws F in
    let r = c.in_ok-answer.ensures in
    let w = infinite_order o L c.in_ok-place.place c.in_ok-place.ensures.value c.args.a.now c.in_ok-algebra.algebra
    c.requires.over (tuples_of o L c.args.order.now) (tuples_of o L c.in_ok-swapped.swapped)
    c.in_ok-algebra.ensures.image c.in_ok-swapped.ensures.image in (
      λ t. w.1 (r.0 t),
      λ h. r.1 (w.0 h),
    )
