use Rattle.spl_field.specs.SmallField.{small_ops, small_laws}
use Rattle.spl_order.proofs.PlaceParts.{no_next}
use Rattle.spl_order.proofs.Contents.{product_nonzero}
use Rattle.spl_order.proofs.place_parts.next_part.Goals as goal

pub divides-requires-clause-nonzero : goal.divides-requires-clause-nonzero
divides-requires-clause-nonzero c =
    let n = c.in_ok-next in
    product_nonzero (small_ops c.args.f.now) (small_laws c.args.f.now) c.args.part.now c.args.m.now n.next c.requires.part c.requires.m
    record { over = n.ensures.over; trimmed = n.ensures.trimmed } n.ensures.value c.requires.part_nonzero
    c.requires.m_nonzero

pub returns-clause-none : goal.returns-clause-none
returns-clause-none c e q hq product d =
    let n = c.in_ok-next in
    no_next (small_ops c.args.f.now) (small_laws c.args.f.now) c.args.part.now c.args.m.now n.next c.args.s.now
    c.requires.part c.requires.m record { over = n.ensures.over; trimmed = n.ensures.trimmed } n.ensures.value
    c.in_ok-divides.field-0 c.in_ok-divides.ensures c.if-branch.false q hq product d
