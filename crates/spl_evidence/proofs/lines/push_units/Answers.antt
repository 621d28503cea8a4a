use Rattle.std.proofs.Common.{◌≡◌, ◌+◌, suc, ◌++◌, take, sym, subst, arith}
use Rattle.spl_evidence.specs.Line.{lines_text}
use Rattle.spl_evidence.specs.Evidence.{unit_lines}
use Rattle.spl_evidence.proofs.Spellings.{unit_written}
use Rattle.spl_evidence.proofs.lines.push_units.Goals as goal

pub loop-i-preserved : goal.loop-i-preserved
loop-i-preserved c =
    let l = c.loop-i in
    let next : suc l.i ≡ l.i + 1 = omega arith in
    subst
    (λ k. c.push_unit.new.out.items
    ≡ c.args.out.now.items ++ lines_text (unit_lines c.args.n 0 (take k c.args.units.now)))
    next
    (unit_written c.args.n c.args.out.now.items l.out.items c.push_unit.new.out.items c.args.units.now l.i
    c.index-units-i.result c.loop-i-test.true l.invariant (sym c.index-units-i.is) c.in_ok-push_unit.ensures)
