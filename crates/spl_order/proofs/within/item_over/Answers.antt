use Rattle.spl_field.specs.SmallField.{small_ops, small_laws}
use Rattle.std.proofs.lemmas.Bool.{both_ways}
use Rattle.spl_order.proofs.Containments.{item_value, item_none}
use Rattle.spl_order.proofs.within.item_over.Goals as goal

pub returns-then-is_zero-clause-value : goal.returns-then-is_zero-clause-value
returns-then-is_zero-clause-value c =
    let o = small_ops c.args.f.now in
    let L = small_laws c.args.f.now in
    let p = c.in_ok-product.ensures in
    let d = c.in_ok-division in
    let e = d.ensures in
    item_value o L c.args.d.now c.args.c.now c.args.item.now c.in_ok-product.product d.division.quotient
    d.division.remainder c.requires.d c.requires.c c.requires.nonzero c.requires.item
    (record { over = p.over; trimmed = p.trimmed }) (record { over = e.quotient_over; trimmed = e.quotient_trimmed })
    (record { over = e.remainder_over; trimmed = e.remainder_trimmed }) p.value e.value
    (c.is_zero.ensures.0 c.if-is_zero.true)

pub returns-clause-none : goal.returns-clause-none
returns-clause-none c = λ _.
    let o = small_ops c.args.f.now in
    let L = small_laws c.args.f.now in
    let p = c.in_ok-product.ensures in
    let d = c.in_ok-division in
    let e = d.ensures in
    item_none o L c.args.d.now c.args.c.now c.args.item.now c.in_ok-product.product d.division.quotient
    d.division.remainder c.requires.d c.requires.c c.requires.nonzero c.requires.item
    (record { over = p.over; trimmed = p.trimmed }) (record { over = e.quotient_over; trimmed = e.quotient_trimmed })
    (record { over = e.remainder_over; trimmed = e.remainder_trimmed }) p.value e.value
    (λ z. both_ways c.is_zero.result c.if-is_zero.false (c.is_zero.ensures.1 z))
