use Rattle.std.proofs.Common.{◌*◌, subst}
use Rattle.spl_field.specs.SmallField.{small_ops, small_laws}
use Rattle.spl_order.specs.Values.{HasRow}
use Rattle.spl_order.specs.Coordinates.{block_item}
use Rattle.spl_order.proofs.BlockProducts.{three_products}
use Rattle.spl_order.proofs.coordinates.scaled_coordinates.Goals as goal

pub returns : goal.returns
returns c =
    let o = small_ops c.args.f.now in
    let L = small_laws c.args.f.now in
    let n = c.args.n in
    let columns = c.args.columns.now in
    let products = c.in_ok-products.products in
    let items = c.in_ok-items.items in
    three_products o L n c.args.rows.now columns c.args.constants.now products items c.in_ok-products.ensures
    (subst (λ x. HasRow o (block_item o L x columns (n * n) n n) (1 * (n * n * n)) items) c.as_slice.ensures
    c.in_ok-items.ensures)
