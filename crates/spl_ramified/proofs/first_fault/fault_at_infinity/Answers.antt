use Rattle.std.proofs.Common.{subst}
use Rattle.std.specs.List.{AllZip}
use Rattle.spl_field.specs.SmallField.{small_ops, small_laws}
use Rattle.spl_fraction.specs.Fractions.{field_of}
use Rattle.spl_fraction.specs.Valuation.{IsSwapped}
use Rattle.spl_order.proofs.InfiniteOrders.{variable_place}
use Rattle.spl_ramified.proofs.InfiniteFaults.{associative_at_x, identity_at_x, shape_at_x, count_at_x, fault_at_x}
use Rattle.spl_ramified.proofs.first_fault.fault_at_infinity.Goals as goal

pub tuple_fault-requires : goal.tuple_fault-requires
tuple_fault-requires c =
    let F = field_of c.args.f.now in
    let o = small_ops F in
    let A = c.args.a.now in
    let B = c.in_ok-algebra.algebra in
    let is = c.in_ok-algebra.ensures.image in
    let e = c.in_ok-one in
    let u = c.in_ok-order in
    let v = c.in_ok-radical in
    let one = subst (λ x. AllZip (IsSwapped o) x e.one) c.as_slice.ensures e.ensures.value in
    let os = subst (λ x. AllZip (AllZip (IsSwapped o)) x u.order) c.as_slice-2.ensures u.ensures.value in
    let js = subst (λ x. AllZip (AllZip (IsSwapped o)) x v.radical) c.as_slice-3.ensures v.ensures.value in
    record {
      over = c.in_ok-algebra.ensures.over;
      associative = associative_at_x F A c.requires.over B is c.requires.associative;
      one = identity_at_x F A c.requires.over B is c.args.one.now e.one c.requires.one e.ensures.elems one;
      place = variable_place o (small_laws F) c.in_ok-place.place c.in_ok-place.ensures.value;
      order_count = count_at_x F A c.requires.over B is c.args.order.now u.order c.requires.order u.ensures.elems os
          c.requires.order_count;
      order = shape_at_x F A c.requires.over B is c.args.order.now u.order c.requires.order u.ensures.elems os;
      radical_count = count_at_x F A c.requires.over B is c.args.radical.now v.radical c.requires.radical
          v.ensures.elems js c.requires.radical_count;
      radical = shape_at_x F A c.requires.over B is c.args.radical.now v.radical c.requires.radical v.ensures.elems js;
    }

pub returns : goal.returns
returns c =
    let F = field_of c.args.f.now in
    let o = small_ops F in
    let u = c.in_ok-order in
    let v = c.in_ok-radical in
    fault_at_x F c.args.a.now c.requires.over c.in_ok-algebra.algebra c.in_ok-algebra.ensures.image c.args.order.now
    u.order c.args.radical.now v.radical c.requires.order c.requires.radical u.ensures.elems v.ensures.elems
    (subst (λ x. AllZip (AllZip (IsSwapped o)) x u.order) c.as_slice-2.ensures u.ensures.value)
    (subst (λ x. AllZip (AllZip (IsSwapped o)) x v.radical) c.as_slice-3.ensures v.ensures.value)
    c.in_ok-place.place c.in_ok-place.ensures.value c.in_ok-fault.fault c.in_ok-fault.ensures
