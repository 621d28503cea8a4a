use Rattle.std.proofs.Common.{◌≡◌, ◌<◌, ◌∙◌, [], List, length, ap, get_or, subst}
use Rattle.theory_tables.proofs.Rows.Sums.{row_at}
use Rattle.spl_algebra.specs.Multiples.{AddsMultiples}
use Rattle.spl_algebra.proofs.Multiples.{HoldsMultiples-none, HoldsMultiples-more}
use Rattle.spl_algebra.proofs.ideal.with_multiples.Goals as goal

pub loop-r-init : goal.loop-r-init
loop-r-init g c =
    HoldsMultiples-none (g.F.Field.ops c.args.f.now)
    (g.met.F.Field.laws c.args.f.now) c.args.m c.args.constants.now c.requires.over.of_elements c.args.rows.now
    c.in_ok-more.more
    c.requires.rows c.in_ok-more.ensures

pub loop-r-preserved : goal.loop-r-preserved
loop-r-preserved g c =
    let o = g.F.Field.ops c.args.f.now in
    let L = g.met.F.Field.laws c.args.f.now in
    let m = c.args.m in
    let cs = c.args.constants.now in
    let rows = c.args.rows.now in
    let slice = c.as_slice-rows.result.now in
    let r = c.loop-r.r in
    let row : c.as_slice.result.now ≡ get_or rows r [] =
    row_at slice r c.index-rows-r.result c.as_slice.result.now c.loop-r-test.true c.index-rows-r.is c.as_slice.ensures
    ∙ ap (λ xs. get_or xs r []) c.as_slice-rows.ensures in
    let r_in = subst (λ n. r < n) (ap length c.as_slice-rows.ensures) c.loop-r-test.true in
    let P : List g.row.F-Elem.Denot → Type 0 = λ a. AddsMultiples o m cs m a c.loop-r.more c.push_multiples.new.rows in
    HoldsMultiples-more o L m cs c.requires.over.of_elements r rows c.loop-r.more c.push_multiples.new.rows r_in
    c.loop-r.invariant (subst P row c.in_ok-push_multiples.ensures)
