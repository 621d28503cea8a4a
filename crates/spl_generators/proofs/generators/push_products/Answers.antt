use Rattle.std.proofs.Common.{List, sym, ◌∙◌, subst}
use Rattle.theory_spaces.specs.Tuples.{IsTuple}
use Rattle.theory_constants.specs.Generated.{InSubalgebra}
use Rattle.spl_generators.proofs.Subalgebras.{one_more, product_in}
use Rattle.spl_generators.proofs.generators.push_products.Goals as goal

pub mul-requires-clause-left : goal.mul-requires-clause-left
mul-requires-clause-left g c =
    let P : List g.row.F-Elem.Denot → Type 0 = IsTuple (g.F.Field.ops c.args.f.now) c.args.a.now.dim in
    subst P (sym c.index-rows-r.is)
    (c.requires.rows.shape c.loop-r.r c.index-rows-r.result c.loop-r-test.true)

pub push-requires : goal.push-requires
push-requires g c = λ k d k_in. let t = c.loop-r.invariant.shape k d k_in in
    t.right_length ∙ sym c.in_ok-mul.ensures.elem.right_length

pub loop-r-preserved : goal.loop-r-preserved
loop-r-preserved g c =
    let o = g.F.Field.ops c.args.f.now in
    let L = g.met.F.Field.laws c.args.f.now in
    let A = c.args.a.now in
    let by = c.args.by.now in
    let P : List g.row.F-Elem.Denot → Type 0 = InSubalgebra o A by in
    let row = c.index-rows-r.result in
    let u = c.in_ok-mul in
    one_more o L A by c.loop-r.more c.push.new.self u.field-0 c.loop-r.invariant u.ensures.elem
    (product_in o L A by c.args.s row c.in_ok-element.element u.field-0 c.requires.place
    (subst P (sym c.index-rows-r.is) (c.requires.rows.each c.loop-r.r row c.loop-r-test.true))
    c.in_ok-element.ensures.value u.ensures.value) c.in_ok-push.ensures.ok
