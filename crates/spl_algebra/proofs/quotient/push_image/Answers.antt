use Rattle.std.proofs.Common.{◌≡◌, length, ◌∙◌, ap}
use Rattle.theory_rings.specs.Sum.{sum_of, at}
use Rattle.theory_tables.specs.Matrix.{entry}
use Rattle.theory_tables.proofs.Rows.Sums.{row_at}
use Rattle.spl_algebra.proofs.QuotientRows.{appended_step, contracted-dot}
use Rattle.spl_algebra.proofs.quotient.push_image.Goals as goal

pub loop-i-preserved : goal.loop-i-preserved
loop-i-preserved g c =
    let o = g.F.Field.ops c.args.f.now in
    let project = c.args.project.now in
    let v = c.args.v.now in
    let i = c.loop-i.i in
    let row = c.as_slice.result.now in
    let read = row_at project i c.index-project-i.result row c.loop-i-test.true c.index-project-i.is
    c.as_slice.ensures in
    let long : length row ≡ length v = ap length read ∙ (c.requires.shape i _ c.loop-i-test.true).right_length in
    let item = c.in_ok-contracted_item.field-0 in
    appended_step c.args.items.now i (λ i. sum_of o (length v) (λ k. o.mul (entry o project i k) (at o v k)))
    c.loop-i.items c.push.new.self item c.loop-i.invariant
    (c.in_ok-contracted_item.ensures.value ∙ contracted-dot o (length row) row v
    ∙ ap (λ n. sum_of o n (λ k. o.mul (at o row k) (at o v k))) long
    ∙ ap (λ r. sum_of o (length v) (λ k. o.mul (at o r k) (at o v k))) read)
    c.in_ok-push.ensures.ok
