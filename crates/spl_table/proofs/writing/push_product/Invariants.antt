use Rattle.std.proofs.Common.{◌≡◌, ◌++◌}
use Rattle.std.specs.List.{flat_map}
use Rattle.spl_table.specs.TableText.{entry_line}
use Rattle.spl_table.specs.Table.{algebra_of}
use Rattle.spl_table.specs.CanonicalTable.{triples_from_pair, nonzero_entries}
use Rattle.spl_table.proofs.writing.push_product.Given as goal

-- the lines so far are written
abbrev pub invariant-loop-k : goal.invariant-loop-k
invariant-loop-k l =
    l.out.items ≡ l.fn.out.items
    ++ flat_map entry_line (nonzero_entries (algebra_of l.table) (triples_from_pair l.k l.i l.j))
