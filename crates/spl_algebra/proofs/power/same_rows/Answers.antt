use Rattle.std.proofs.Common.{◌≡◌, ◌<◌, [], length, get_or, sym, ◌∙◌, arith}
use Rattle.std.proofs.lemmas.List.{ext_get_or}
use borrow.Author.Count.{below_more}
use Rattle.theory_tables.proofs.Rows.Sums.{row_at}
use Rattle.spl_algebra.proofs.power.same_rows.Goals as goal

pub loop-r-preserved : goal.loop-r-preserved
loop-r-preserved g c =
    let a = c.args.a.now in
    let b = c.args.b.now in
    let r = c.loop-r.r in
    let long : length a ≡ length b = omega arith in
    let r_in : r < length a = omega arith in
    let r_in' : r < length b = omega arith in
    let left = row_at a r c.index-a-r.result c.as_slice.result.now r_in c.index-a-r.is c.as_slice.ensures in
    let right = row_at b r c.index-b-r.result c.as_slice-in-loop-r.result.now r_in' c.index-b-r.is
    c.as_slice-in-loop-r.ensures in
    below_more (λ k. get_or a k [] ≡ get_or b k []) r c.loop-r.invariant
    (sym left ∙ c.same.ensures.0 c.if-not-same.false ∙ right)

pub returns : goal.returns
returns g c =
    let long : length c.args.a.now ≡ length c.args.b.now = omega arith in
    λ _. ext_get_or [] c.args.a.now c.args.b.now long (λ k l. c.loop-r.invariant k (omega arith))
