use Rattle.spl_table.proofs.CanonicalLines.{row_item}
use Rattle.spl_table.proofs.writing.push_product.Goals as goal

pub push_nonzero-requires-clause-value : goal.push_nonzero-requires-clause-value
push_nonzero-requires-clause-value c =
    row_item c.args.table.now c.fractions.result.now c.algebra.result.now c.basis_product-row.result.now c.args.i
    c.args.j c.loop-k.k c.index-row-k.result c.fractions.ensures c.algebra.ensures.algebra c.requires.first
    c.requires.second c.loop-k-test.true c.basis_product-row.ensures.value c.index-row-k.is
