use Rattle.std.proofs.Common.{◌<◌, List, length, ap, ◌∙◌, arith}
use Rattle.theory_rings.specs.Sum.{at}
use Rattle.theory_tables.specs.Structure.{product_of}
use Rattle.theory_tables.proofs.Rows.Sums.{read_at}
use Rattle.spl_matrix.proofs.Changes.{slice-elem}
use Rattle.spl_check.proofs.central.factor_of.Goals as goal

pub copy-requires : goal.copy-requires
copy-requires g c =
    let long = c.in_ok-product.ensures.elem.right_length in
    let some : 0 < length c.in_ok-product.product = omega (arith, long, c.requires.positive) in
    slice-elem (g.F.Field.ops c.args.f.now) c.in_ok-product.product c.as_slice-items.result.now 0 c.index-items-0.result
    c.in_ok-product.ensures.elem.of_elements c.as_slice-items.ensures some c.index-items-0.is

pub returns : goal.returns
returns g c =
    let o = g.F.Field.ops c.args.f.now in
    let A = c.args.algebra.now in
    let items = c.as_slice-items.result.now in
    let long = c.in_ok-product.ensures.elem.right_length in
    let some : 0 < length items = omega (arith, ap length c.as_slice-items.ensures, long, c.requires.positive) in
    let is = c.as_slice-items.ensures ∙ c.in_ok-product.ensures.value
    ∙ ap (λ b. product_of o A c.args.a.now b) c.in_ok-b.ensures.value in
    record {
      elem = c.in_ok-item.ensures.elem;
      value = c.in_ok-item.ensures.value ∙ read_at o items 0 c.index-items-0.result some c.index-items-0.is
          ∙ ap (λ (xs : List g.row.F-Elem.Denot). at o xs 0) is;
    }
