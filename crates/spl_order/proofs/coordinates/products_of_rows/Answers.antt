use Rattle.std.proofs.Common.{◌*◌, subst}
use Rattle.spl_field.specs.SmallField.{small_ops, small_laws}
use Rattle.spl_order.specs.Values.{HasRow}
use Rattle.spl_order.specs.Coordinates.{block_item}
use Rattle.spl_order.proofs.BlockProducts.{two_products}
use Rattle.spl_order.proofs.coordinates.products_of_rows.Goals as goal

pub returns : goal.returns
returns c =
    let o = small_ops c.args.f.now in
    let L = small_laws c.args.f.now in
    let n = c.args.n in
    let sums = c.in_ok-sums.sums in
    let products = c.in_ok-products.products in
    two_products o L n c.args.lefts.now c.args.rights.now c.args.constants.now sums products c.in_ok-sums.ensures
    (subst (λ x. HasRow o (block_item o L c.args.rights.now x n n n) (n * (n * n)) products) c.as_slice.ensures
    c.in_ok-products.ensures)
