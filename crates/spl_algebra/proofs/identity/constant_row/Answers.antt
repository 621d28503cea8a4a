use Rattle.std.proofs.Common.{◌∙◌, ap, arith}
use Rattle.theory_rings.specs.Sum.{at}
use Rattle.spl_algebra.specs.IdentitySystem.{constant_place}
use Rattle.theory_tables.proofs.Rows.Sums.{table_step, read_at}
use Rattle.spl_algebra.proofs.Steps.{IsTuple-push}
use Rattle.spl_algebra.proofs.identity.constant_row.Goals as goal

pub loop-c-preserved : goal.loop-c-preserved
loop-c-preserved g c =
    let o = g.F.Field.ops c.args.f.now in
    let l = c.loop-c in
    let item = c.in_ok-copy in
    let cs = c.args.constants.now in
    let place = c.constant_place in
    let read = read_at o cs place.result c.index-constants-constant_place.result
    (omega (arith, place.ensures.within, c.requires.over.right_length)) c.index-constants-constant_place.is in
    record {
      elem = IsTuple-push o l.c l.items c.push.new.self item.field-0 l.invariant.elem item.ensures.elem
          c.in_ok-push.ensures.ok;
      value = table_step l.c (λ k. at o cs (constant_place c.args.m c.args.i k)) l.items c.push.new.self item.field-0
          l.invariant.value
          (item.ensures.value ∙ read ∙ ap (at o cs) place.ensures.value) c.in_ok-push.ensures.ok;
    }
