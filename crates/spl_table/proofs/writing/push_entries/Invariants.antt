use Rattle.std.proofs.Common.{◌≡◌, ◌++◌}
use Rattle.std.specs.List.{flat_map}
use Rattle.spl_table.specs.TableText.{entry_line}
use Rattle.spl_table.specs.Table.{algebra_of}
use Rattle.spl_table.specs.CanonicalTable.{first_numbers, triples_from, nonzero_entries}
use Rattle.spl_table.proofs.writing.push_entries.Given as goal

-- the lines so far are written
abbrev pub invariant-loop-i : goal.invariant-loop-i
invariant-loop-i l =
    l.out.items ≡ l.fn.out.items ++ flat_map entry_line
    (nonzero_entries (algebra_of l.table) (flat_map (triples_from (algebra_of l.table).dim) (first_numbers l.i)))
