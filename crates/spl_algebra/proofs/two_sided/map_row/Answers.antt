use Rattle.theory_tables.proofs.Rows.Sums.{table_step}
use Rattle.spl_algebra.specs.TwoSided.{map_coordinate}
use Rattle.spl_algebra.proofs.Steps.{IsTuple-push}
use Rattle.spl_algebra.proofs.two_sided.map_row.Goals as goal

pub loop-s-preserved : goal.loop-s-preserved
loop-s-preserved g c =
    let o = g.F.Field.ops c.args.f.now in
    let item = c.in_ok-map_item in
    record {
      elem = IsTuple-push o c.loop-s.s c.loop-s.row c.push.new.self item.field-0 c.loop-s.invariant.elem
          item.ensures.elem c.in_ok-push.ensures.ok;
      value = table_step c.loop-s.s (map_coordinate o c.args.m c.args.constants.now c.args.i c.args.j) c.loop-s.row
          c.push.new.self item.field-0 c.loop-s.invariant.value item.ensures.value c.in_ok-push.ensures.ok;
    }
