use Rattle.spl_residue.proofs.Values.{remainder_of_elem, elem_of_remainder, product_value}
use Rattle.spl_residue.proofs.field.ResidueFieldField.mul.Goals as goal

pub product_of-requires-clause-left : goal.product_of-requires-clause-left
product_of-requires-clause-left c =
    let k = c.args.self.now in
    remainder_of_elem k.field k.modulus k.irreducible c.args.a.now c.poly.result.now c.poly.ensures c.requires.left

pub product_of-requires-clause-right : goal.product_of-requires-clause-right
product_of-requires-clause-right c =
    let k = c.args.self.now in
    remainder_of_elem k.field k.modulus k.irreducible c.args.b.now c.poly-2.result.now c.poly-2.ensures c.requires.right

pub returns-clause-elem : goal.returns-clause-elem
returns-clause-elem c =
    let k = c.args.self.now in
    elem_of_remainder k.field k.modulus k.irreducible c.in_ok-product.product c.of.result c.of.ensures
    c.in_ok-product.ensures.remainder

pub returns-clause-value : goal.returns-clause-value
returns-clause-value c =
    let k = c.args.self.now in
    product_value k.field k.modulus k.irreducible c.args.a.now c.args.b.now c.poly.result.now c.poly-2.result.now
    c.in_ok-product.product c.of.result c.poly.ensures c.poly-2.ensures c.of.ensures c.requires.left c.requires.right
    c.in_ok-product.ensures.remainder c.in_ok-product.ensures.value
