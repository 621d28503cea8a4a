use Rattle.spl_algebra.specs.IdentitySystem.{unit_item}
use Rattle.theory_tables.proofs.Rows.Sums.{table_step}
use Rattle.spl_algebra.proofs.Steps.{IsTuple-push}
use Rattle.spl_algebra.proofs.identity.unit_row.Goals as goal

pub loop-c-preserved : goal.loop-c-preserved
loop-c-preserved g c =
    let o = g.F.Field.ops c.args.f.now in
    let l = c.loop-c in
    let item = c.in_ok-unit_item in
    record {
      elem = IsTuple-push o l.c l.items c.push.new.self item.field-0 l.invariant.elem item.ensures.elem
          c.in_ok-push.ensures.ok;
      value = table_step l.c (unit_item o c.args.m) l.items c.push.new.self item.field-0 l.invariant.value
          item.ensures.value c.in_ok-push.ensures.ok;
    }
