use Rattle.std.proofs.Common.{subst, sym}
use Rattle.spl_field.specs.SmallField.{small_ops}
use Rattle.spl_factor.specs.Factorisation.{IsMultipleOfProduct}
use Rattle.spl_factor.proofs.Products.{whole_product}
use Rattle.spl_factor.proofs.Values.{monic_value}
use Rattle.spl_factor.proofs.factors.factor.Goals as goal

pub factors_of-requires : goal.factors_of-requires
factors_of-requires c =
    let m = c.in_ok-monic in
    monic_value c.args.f.now c.args.a.now m.field-0
    record { over = c.requires.over; trimmed = c.leading_of-leading.ensures.trimmed }
    record { over = m.ensures.over; trimmed = m.ensures.trimmed } c.requires.nonzero m.ensures.value

pub returns-clause-product : goal.returns-clause-product
returns-clause-product c =
    let m = c.in_ok-monic in
    let v = c.in_ok-list in
    subst (IsMultipleOfProduct (small_ops c.args.f.now) c.args.a.now c.leading_of-leading.result)
    (sym c.from_vec.ensures)
    (whole_product c.args.f.now c.args.a.now m.field-0 c.leading_of-leading.result v.list.items
    record { over = c.requires.over; trimmed = c.leading_of-leading.ensures.trimmed }
    record { over = m.ensures.over; trimmed = m.ensures.trimmed } c.requires.nonzero m.ensures.value
    c.leading_of-leading.ensures.value v.ensures.factors v.ensures.product)
