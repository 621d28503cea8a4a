use Rattle.std.proofs.Common.{◌≡◌, ◌++◌}
use Rattle.std.specs.List.{flat_map}
use Rattle.spl_table.specs.TableText.{entry_line}
use Rattle.spl_table.specs.Table.{algebra_of}
use Rattle.spl_table.specs.CanonicalTable.{first_numbers, triples_from_pair, nonzero_entries}
use Rattle.spl_table.proofs.writing.push_products.Given as goal

-- the lines so far are written
abbrev pub invariant-loop-j : goal.invariant-loop-j
invariant-loop-j l =
    l.out.items ≡ l.fn.out.items ++ flat_map entry_line
    (nonzero_entries (algebra_of l.table)
    (flat_map (triples_from_pair (algebra_of l.table).dim l.i) (first_numbers l.j)))
