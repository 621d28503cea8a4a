use Rattle.std.proofs.Common.{sym, subst}
use Rattle.spl_fraction.specs.Fractions.{field_of}
use Rattle.spl_local.specs.Everywhere.{IsEverywhere, IsAtFinitePlaces, HoldFirstOrders, HoldsFiniteStarts}
use Rattle.spl_local.proofs.InfinitePlace.{everywhere_joined, first_joined}
use Rattle.spl_local.proofs.everywhere.settle_everywhere.Goals as goal

pub returns-in_ok-order-in-Unimodular-clause-everywhere : goal.returns-in_ok-order-in-Unimodular-clause-everywhere
returns-in_ok-order-in-Unimodular-clause-everywhere c =
    let F = field_of c.args.f.now in
    let A = c.args.a.now in
    let v = c.in-Unimodular in
    let r = c.in_ok-order-in-Unimodular in
    subst (IsEverywhere F A) (sym c.with_infinity.ensures)
    (everywhere_joined F A c.requires.over c.requires.associative v.finite r.field-0.order r.field-0.state
    (subst (IsAtFinitePlaces F A) v.is c.in_ok-place.ensures.places) r.ensures.basis r.ensures.state)

pub returns-in_ok-order-in-Unimodular-clause-first : goal.returns-in_ok-order-in-Unimodular-clause-first
returns-in_ok-order-in-Unimodular-clause-first c =
    let F = field_of c.args.f.now in
    let A = c.args.a.now in
    let one = c.args.one.now in
    let v = c.in-Unimodular in
    let r = c.in_ok-order-in-Unimodular in
    subst (HoldFirstOrders F A one) (sym c.with_infinity.ensures)
    (first_joined F A c.requires.over c.requires.associative one c.requires.one v.finite r.field-0.order r.field-0.state
    (subst (HoldsFiniteStarts F A one) v.is c.in_ok-place.ensures.first) r.ensures.first)
