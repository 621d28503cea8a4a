use Rattle.std.proofs.Common.{◌<◌, ◌*◌, arith}
use Rattle.spl_algebra.proofs.Rows.{row_end-le}
use Rattle.spl_algebra.proofs.EntryLists.{row_entries-more}
use Rattle.spl_algebra.proofs.entries.entries_of.Goals as goal

pub entries_of_row-requires-clause-ends : goal.entries_of_row-requires-clause-ends
entries_of_row-requires-clause-ends g c =
    let m = c.args.m in
    let r = c.loop-r.r in
    let below : r < m * m = omega arith in
    omega (arith, row_end-le r (m * m) m below, c.requires.over.right_length)

pub loop-r-preserved : goal.loop-r-preserved
loop-r-preserved g c =
    let o = g.F.Field.ops c.args.f.now in
    let list = c.in_ok-entries_of_row in
    row_entries-more o c.args.m c.args.constants.now c.loop-r.r c.loop-r.lists c.push.new.self list.field-0
    list.ensures c.in_ok-push.ensures.ok c.loop-r.invariant
