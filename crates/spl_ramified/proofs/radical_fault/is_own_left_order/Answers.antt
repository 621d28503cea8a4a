use Rattle.spl_field.specs.SmallField.{small_ops, small_laws}
use Rattle.spl_fraction.specs.Fractions.{field_of}
use Rattle.theory_bases.specs.Bases.{tuples_of}
use Rattle.spl_ramified.proofs.OrderConditions.{radical_over, own_left_order}
use Rattle.spl_ramified.proofs.radical_fault.is_own_left_order.Goals as goal

pub left_order-requires-clause-over_place : goal.left_order-requires-clause-over_place
left_order-requires-clause-over_place c =
    let o = small_ops (field_of c.args.f.now) in
    let L = small_laws (field_of c.args.f.now) in
    radical_over o L c.args.a.now c.requires.over c.args.place.now c.requires.place c.requires.associative
    (tuples_of o L c.args.order.now) c.requires.order (tuples_of o L c.args.radical.now) c.requires.radical

pub is_within_at-requires-clause-bases : goal.is_within_at-requires-clause-bases
is_within_at-requires-clause-bases c = (c.args.a.now.dim, c.in_ok-left.ensures.basis, c.requires.basis)

pub returns : goal.returns
returns c =
    let o = small_ops (field_of c.args.f.now) in
    let L = small_laws (field_of c.args.f.now) in
    let A = c.args.a.now in
    let w = c.in_ok-within.ensures A.dim c.in_ok-left.ensures.basis c.requires.basis in
    let e = own_left_order o L A c.requires.over c.args.place.now c.requires.place c.requires.associative
    (tuples_of o L c.args.order.now) c.requires.order (tuples_of o L c.args.radical.now) c.requires.radical
    (tuples_of o L c.in_ok-left.left) c.in_ok-left.ensures.at_place in
    ((λ t. e.0 (w.0 t)), (λ h. w.1 (e.1 h)))
