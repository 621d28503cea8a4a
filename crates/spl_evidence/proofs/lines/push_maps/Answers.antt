use Rattle.std.proofs.Common.{◌≡◌, ◌+◌, suc, ◌++◌, take, sym, subst, arith}
use Rattle.spl_evidence.specs.Line.{lines_text}
use Rattle.spl_evidence.specs.Evidence.{map_lines}
use Rattle.spl_evidence.proofs.Spellings.{map_written}
use Rattle.spl_evidence.proofs.lines.push_maps.Goals as goal

pub loop-i-preserved : goal.loop-i-preserved
loop-i-preserved c =
    let l = c.loop-i in
    let next : suc l.i ≡ l.i + 1 = omega arith in
    subst (λ k. c.push_map.new.out.items ≡ c.args.out.now.items ++ lines_text (map_lines 0 (take k c.args.maps.now)))
    next
    (map_written c.args.out.now.items l.out.items c.push_map.new.out.items c.args.maps.now l.i c.index-maps-i.result
    c.loop-i-test.true l.invariant (sym c.index-maps-i.is) c.in_ok-push_map.ensures)
