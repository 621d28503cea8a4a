use Rattle.std.proofs.Common.{cond, ap, sym, ◌∙◌}
use Rattle.theory_tables.specs.Structure.{product_of, basis_of}
use Rattle.spl_check.proofs.ideal.side_product.Goals as goal

pub returns-then-is_left : goal.returns-then-is_left
returns-then-is_left g c =
    let o = g.F.Field.ops c.args.f.now in
    let A = c.args.algebra.now in
    let v = c.args.v.now in
    let b = basis_of o A c.args.i in
    record {
      elem = c.in_ok-product.ensures.elem;
      value = c.in_ok-product.ensures.value ∙ ap (λ x. product_of o A x v) c.in_ok-b.ensures.value
          ∙ sym (ap (λ t. cond t (product_of o A b v) (product_of o A v b)) c.if-is_left.true);
    }

pub returns : goal.returns
returns g c =
    let o = g.F.Field.ops c.args.f.now in
    let A = c.args.algebra.now in
    let v = c.args.v.now in
    let b = basis_of o A c.args.i in
    record {
      elem = c.in_ok-product-2.ensures.elem;
      value = c.in_ok-product-2.ensures.value ∙ ap (λ x. product_of o A v x) c.in_ok-b.ensures.value
          ∙ sym (ap (λ t. cond t (product_of o A b v) (product_of o A v b)) c.if-is_left.false);
    }
