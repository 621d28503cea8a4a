use Rattle.spl_field.specs.SmallField.{small_ops, small_laws}
use Rattle.spl_numerators.proofs.Sums.{add_zero_product, add_product_zero, add_product}
use Rattle.spl_numerators.proofs.products.add_product.Goals as goal

pub returns-then-is_zero-clause-value : goal.returns-then-is_zero-clause-value
returns-then-is_zero-clause-value c =
    add_zero_product (small_ops c.args.f.now) (small_laws c.args.f.now) c.args.sum c.args.a.now c.args.b.now
    c.requires.sum c.requires.right (c.is_zero.ensures.0 c.if-is_zero.true)

pub returns-then-is_zero-2-clause-value : goal.returns-then-is_zero-2-clause-value
returns-then-is_zero-2-clause-value c =
    add_product_zero (small_ops c.args.f.now) (small_laws c.args.f.now) c.args.sum c.args.a.now c.args.b.now
    c.requires.sum c.requires.left (c.is_zero-2.ensures.0 c.if-is_zero-2.true)

pub returns-clause-value : goal.returns-clause-value
returns-clause-value c =
    let t = c.in_ok-term in
    let r = c.in_ok-add in
    add_product (small_ops c.args.f.now) (small_laws c.args.f.now) c.args.sum c.args.a.now c.args.b.now t.term
    r.field-0 c.requires.sum c.requires.left c.requires.right
    record { over = t.ensures.over; trimmed = t.ensures.trimmed }
    record { over = r.ensures.over; trimmed = r.ensures.trimmed }
    t.ensures.value r.ensures.value
