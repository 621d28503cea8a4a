use Rattle.std.proofs.Common.{◌<◌, sym, ◌∙◌, arith, below_more}
use Rattle.std.proofs.lemmas.Bool.{both_ways}
use Rattle.spl_check.specs.Sides.{side_product_of}
use Rattle.spl_check.proofs.SideSpans.{InSpan-read, IsTuple-read}
use Rattle.spl_check.proofs.Tests.{yes, no}
use Rattle.spl_check.proofs.ideal.holds_products.Goals as goal

pub contains-requires : goal.contains-requires
contains-requires g c = record {
  basis = c.requires.subspace;
  vector = IsTuple-read (g.F.Field.ops c.args.f.now) c.args.algebra.now.dim c.args.space.now.width
      c.in_ok-product.product c.as_slice.result.now (sym c.requires.width) (sym c.as_slice.ensures)
      c.in_ok-product.ensures.elem;
}

pub loop-i-preserved : goal.loop-i-preserved
loop-i-preserved g c =
    let o = g.F.Field.ops c.args.f.now in
    let s = c.args.space.now in
    let A = c.args.algebra.now in
    below_more _ _ c.loop-i.invariant
    (InSpan-read o s.width A.dim s.rows c.as_slice.result.now
    (side_product_of o A c.args.is_left c.args.v.now c.loop-i.i)
    c.requires.width (c.as_slice.ensures ∙ c.in_ok-product.ensures.value)
    (c.in_ok-contains.ensures.0 c.if-not-branch.false))

pub returns : goal.returns
returns g c = yes (λ i i_in. c.loop-i.invariant i (omega (arith, i_in, c.loop-i-test.false, c.dim-i-end.ensures.dim)))

pub returns-then-not-branch : goal.returns-then-not-branch
returns-then-not-branch g c =
    let o = g.F.Field.ops c.args.f.now in
    let s = c.args.space.now in
    let A = c.args.algebra.now in
    let i = c.loop-i.i in
    let i_in : i < A.dim = omega (arith, c.loop-i-test.true, c.dim-i-end.ensures.dim) in
    no (λ h. both_ways c.in_ok-contains.field-0 c.if-not-branch.true (c.in_ok-contains.ensures.1
    (InSpan-read o A.dim s.width s.rows (side_product_of o A c.args.is_left c.args.v.now i) c.as_slice.result.now
    (sym c.requires.width) (sym (c.as_slice.ensures ∙ c.in_ok-product.ensures.value)) (h i i_in))))
