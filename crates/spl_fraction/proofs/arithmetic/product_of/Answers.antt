use Rattle.std.proofs.Common.{sym, ◌∙◌, subst}
use Rattle.spl_field.specs.SmallField.{small_ops, small_laws}
use Rattle.theory_fractions.specs.Fraction.{IsFractionProduct}
use Rattle.theory_fractions.proofs.ProductsOfFractions.{zero_product, product_zero, product_comm}
use Rattle.spl_fraction.proofs.arithmetic.product_of.Goals as goal

pub returns-then-is_zero-clause-product : goal.returns-then-is_zero-clause-product
returns-then-is_zero-clause-product c =
    let o = small_ops c.args.f.now in
    subst (IsFractionProduct o c.args.a.now c.args.b.now) (sym c.in_ok-copy_of.ensures)
    (zero_product o (small_laws c.args.f.now) c.args.a.now c.args.b.now c.requires.left c.requires.right
    (sym c.numerator.ensures.value ∙ c.is_zero.ensures.0 c.if-is_zero.true))

pub returns-then-is_zero-2-clause-product : goal.returns-then-is_zero-2-clause-product
returns-then-is_zero-2-clause-product c =
    let o = small_ops c.args.f.now in
    subst (IsFractionProduct o c.args.a.now c.args.b.now) (sym c.in_ok-copy_of-2.ensures)
    (product_zero o (small_laws c.args.f.now) c.args.a.now c.args.b.now c.requires.left c.requires.right
    (sym c.numerator-2.ensures.value ∙ c.is_zero-2.ensures.0 c.if-is_zero-2.true))

pub returns-then-is_unit-2-clause-product : goal.returns-then-is_unit-2-clause-product
returns-then-is_unit-2-clause-product c =
    product_comm (small_ops c.args.f.now)
    (small_laws c.args.f.now) c.args.b.now c.args.a.now c.in_ok-product_with_constant-2.field-0
    c.requires.right c.requires.left c.in_ok-product_with_constant-2.ensures.lowest
    c.in_ok-product_with_constant-2.ensures.product
