use Rattle.spl_algebra.specs.Contractions.{basis_trace}
use Rattle.theory_tables.proofs.Rows.Sums.{table_step}
use Rattle.spl_algebra.proofs.Steps.{IsTuple-push}
use Rattle.spl_algebra.proofs.trace.basis_traces_of.Goals as goal

pub loop-i-preserved : goal.loop-i-preserved
loop-i-preserved g c =
    let o = g.F.Field.ops c.args.f.now in
    let l = c.loop-i in
    let item = c.in_ok-basis_trace_of in
    record {
      elem = IsTuple-push o l.i l.traces c.push.new.self item.field-0 l.invariant.elem item.ensures.elem
          c.in_ok-push.ensures.ok;
      value = table_step l.i (basis_trace o c.args.m c.args.constants.now) l.traces c.push.new.self item.field-0
          l.invariant.value
          item.ensures.value c.in_ok-push.ensures.ok;
    }
