use Rattle.std.proofs.Common.{◌≡◌, ℕ, ◌<◌, length, get_or}
use Rattle.spl_field.specs.Tables.{table_power}
use Rattle.spl_field.proofs.tables.root_table.Given as goal

abbrev pub invariant-loop-r : goal.invariant-loop-r
invariant-loop-r l = record {
  full : length l.table.items ≡ l.size;
  elements : (i : ℕ) → i < l.size → get_or l.table.items i 0 < l.size;
  roots : (r : ℕ) → r < l.r
      → table_power l.size l.products
      (get_or l.table.items (table_power l.size l.products r l.p) 0) l.p ≡ table_power l.size l.products r l.p;
}
