use Rattle.spl_table.specs.Table.{algebra_of}
use Rattle.spl_table.specs.CanonicalTable.{triples_from_pair}
use Rattle.spl_table.proofs.CanonicalLines.{lines_more}
use Rattle.spl_table.proofs.writing.push_products.Goals as goal

pub loop-j-preserved : goal.loop-j-preserved
loop-j-preserved c =
    lines_more (algebra_of c.args.table.now) c.args.out.now.items c.loop-j.out.items c.push_product.new.out.items
    (triples_from_pair (algebra_of c.args.table.now).dim c.args.i) c.loop-j.j c.loop-j.invariant
    c.in_ok-push_product.ensures
