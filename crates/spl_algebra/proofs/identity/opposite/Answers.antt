use Rattle.std.proofs.Common.{◌∙◌, ap, arith}
use Rattle.theory_rings.specs.Sum.{at}
use Rattle.theory_tables.proofs.Rows.Sums.{table_step, read_at}
use Rattle.spl_algebra.proofs.Steps.{IsTuple-push}
use Rattle.spl_algebra.proofs.identity.opposite.Goals as goal

pub loop-i-preserved : goal.loop-i-preserved
loop-i-preserved g c =
    let o = g.F.Field.ops c.args.f.now in
    let l = c.loop-i in
    let item = c.in_ok-neg in
    let read = read_at o c.args.items.now l.i c.index-items-i.result (omega (arith, c.requires.right_length))
    c.index-items-i.is in
    record {
      elem = IsTuple-push o l.i l.opposite c.push.new.self item.field-0 l.invariant.elem item.ensures.elem
          c.in_ok-push.ensures.ok;
      value = table_step l.i (λ i. o.neg (at o c.args.items.now i)) l.opposite c.push.new.self item.field-0
          l.invariant.value
          (item.ensures.value ∙ ap o.neg read) c.in_ok-push.ensures.ok;
    }
