use Rattle.std.proofs.Common.{◌≡◌, ◌+◌, ◌<◌, List, [], length, get_or, ap, ◌∙◌, subst, arith}
use Rattle.std.proofs.lemmas.List.{length_push}
use Rattle.spl_matrix.specs.Spanning.{IsLeadingPlace}
use Rattle.theory_tables.proofs.Rows.Sums.{row_at}
use Rattle.theory_tables.proofs.Rows.Spans.{grow_at}
use Rattle.spl_matrix.proofs.ReducedBases.{leading_pivots}
use Rattle.spl_matrix.proofs.basis.pivots_of.Goals as goal

pub loop-i-preserved : goal.loop-i-preserved
loop-i-preserved g c =
    let o = g.F.Field.ops c.args.f.now in
    let rows = c.args.rows.now in
    let i = c.loop-i.i in
    let before = c.loop-i.pivots in
    let after = c.push.new.self in
    let item = c.leading_place.result in
    let inv = c.loop-i.invariant in
    let read = row_at rows i c.index-rows-i.result c.as_slice.result.now c.loop-i-test.true c.index-rows-i.is
    c.as_slice.ensures in
    let P : List g.row.F-Elem.Denot → Type 0 = λ row. IsLeadingPlace o row item in
    record {
      long = ap length c.in_ok-push.ensures.ok ∙ length_push before item ∙ ap (λ k. k + 1) inv.long;
      each = grow_at (λ k p. IsLeadingPlace o (get_or rows k []) p) 0 i before after item inv.long inv.each
          (subst P read c.leading_place.ensures) c.in_ok-push.ensures.ok;
    }

pub returns-clause-reduced : goal.returns-clause-reduced
returns-clause-reduced g c =
    let o = g.F.Field.ops c.args.f.now in
    let L = g.met.F.Field.laws c.args.f.now in
    let rows = c.args.rows.now in
    let inv = c.loop-i.invariant in
    let ended : c.loop-i.i ≡ length rows = omega arith in
    let long : length c.loop-i.pivots ≡ length rows = inv.long ∙ ended in
    leading_pivots o L c.args.w rows c.requires c.loop-i.pivots long
    (λ k k_in. let k_in' : k < c.loop-i.i = omega arith in inv.each k k_in')
