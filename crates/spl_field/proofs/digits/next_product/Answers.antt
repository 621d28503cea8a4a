use Rattle.std.proofs.Common.{◌<◌, subst}
use Rattle.spl_field.proofs.NextProduct.{product_at_zero, product_by_t, product_by_sum}
use Rattle.spl_field.proofs.digits.next_product.Goals as goal

pub returns-then-b-eq0 : goal.returns-then-b-eq0
returns-then-b-eq0 c =
    product_at_zero c.args.p c.args.modulus.now c.requires.fits c.args.a c.args.b 0 0 0 c.args.row.now c.requires.before
    c.if-b-eq0.true

pub returns-then-b-p-eq0 : goal.returns-then-b-p-eq0
returns-then-b-p-eq0 c =
    product_by_t c.args.p c.args.modulus.now c.requires.fits c.args.a c.args.b c.from.result c.from-then-b-p-eq0.result
    c.product_by_t.result c.args.row.now c.requires.before
    c.if-b-eq0.false c.if-b-p-eq0.true c.from.ensures c.from-then-b-p-eq0.ensures c.product_by_t.ensures

pub returns-else-b-p-eq0 : goal.returns-else-b-p-eq0
returns-else-b-p-eq0 c =
    product_by_sum c.args.p c.args.modulus.now c.requires.fits c.args.a c.args.b c.from-else-b-p-eq0.result
    c.from-else-b-p-eq0-2.result c.sum_by_digits.result c.args.row.now c.requires.before
    (subst (λ n. c.args.a < n) c.requires.size c.requires.first)
    (subst (λ n. c.args.b < n) c.requires.size c.requires.second)
    c.if-b-eq0.false c.if-b-p-eq0.false
    c.from-else-b-p-eq0.ensures c.from-else-b-p-eq0-2.ensures c.sum_by_digits.ensures
