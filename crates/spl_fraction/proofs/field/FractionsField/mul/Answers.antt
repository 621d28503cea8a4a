use Rattle.spl_field.specs.SmallField.{small_ops, small_laws}
use Rattle.theory_fractions.proofs.ElementClauses.{lowest_of_elem, elem_of_lowest, mul_is}
use Rattle.spl_fraction.proofs.field.FractionsField.mul.Goals as goal

pub product_of-requires-clause-left : goal.product_of-requires-clause-left
product_of-requires-clause-left c =
    lowest_of_elem (small_ops c.args.self.now.field) (small_laws c.args.self.now.field) c.args.a.now c.requires.left

pub product_of-requires-clause-right : goal.product_of-requires-clause-right
product_of-requires-clause-right c =
    lowest_of_elem (small_ops c.args.self.now.field) (small_laws c.args.self.now.field) c.args.b.now c.requires.right

pub returns-clause-elem : goal.returns-clause-elem
returns-clause-elem c =
    elem_of_lowest (small_ops c.args.self.now.field)
    (small_laws c.args.self.now.field) c.in_ok-product_of.field-0 c.in_ok-product_of.ensures.lowest

pub returns-clause-value : goal.returns-clause-value
returns-clause-value c =
    mul_is (small_ops c.args.self.now.field)
    (small_laws c.args.self.now.field) c.args.a.now c.args.b.now c.in_ok-product_of.field-0
    c.requires.left c.requires.right c.in_ok-product_of.ensures.lowest c.in_ok-product_of.ensures.product
