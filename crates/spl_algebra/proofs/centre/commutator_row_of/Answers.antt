use Rattle.std.proofs.Common.{◌∙◌, ap, ap₂, arith}
use Rattle.theory_rings.specs.Sum.{at}
use Rattle.theory_tables.proofs.Rows.Sums.{table_step, read_at}
use Rattle.spl_algebra.specs.Contractions.{commutator_item}
use Rattle.spl_algebra.proofs.Steps.{IsTuple-push}
use Rattle.spl_algebra.proofs.centre.commutator_row_of.Goals as goal

pub loop-j-preserved : goal.loop-j-preserved
loop-j-preserved g c =
    let o = g.F.Field.ops c.args.f.now in
    let m = c.args.m in
    let cs = c.args.constants.now in
    let i = c.args.i in
    let k = c.args.k in
    let j = c.loop-j.j in
    let long = c.requires.over.right_length in
    let right = read_at o cs c.place.result c.index-constants-place.result
    (omega (arith, long, c.place.ensures.within)) c.index-constants-place.is
    ∙ ap (at o cs) c.place.ensures.value in
    let left = read_at o cs c.place-in-loop-j.result c.index-constants-place-in-loop-j.result
    (omega (arith, long, c.place-in-loop-j.ensures.within)) c.index-constants-place-in-loop-j.is
    ∙ ap (at o cs) c.place-in-loop-j.ensures.value in
    record {
      elem = IsTuple-push o j c.loop-j.row c.push.new.self c.in_ok-difference.field-0 c.loop-j.invariant.elem
          c.in_ok-difference.ensures.elem c.in_ok-push.ensures.ok;
      value = table_step j (commutator_item o m cs i k) c.loop-j.row c.push.new.self c.in_ok-difference.field-0
          c.loop-j.invariant.value
          (c.in_ok-difference.ensures.value ∙ ap₂ (λ x y. o.add x (o.neg y)) right left) c.in_ok-push.ensures.ok;
    }
