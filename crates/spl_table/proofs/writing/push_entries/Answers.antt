use Rattle.spl_table.specs.Table.{algebra_of}
use Rattle.spl_table.specs.CanonicalTable.{triples_from}
use Rattle.spl_table.proofs.CanonicalLines.{lines_more}
use Rattle.spl_table.proofs.writing.push_entries.Goals as goal

pub loop-i-preserved : goal.loop-i-preserved
loop-i-preserved c =
    lines_more (algebra_of c.args.table.now) c.args.out.now.items c.loop-i.out.items c.push_products.new.out.items
    (triples_from (algebra_of c.args.table.now).dim) c.loop-i.i c.loop-i.invariant c.in_ok-push_products.ensures
