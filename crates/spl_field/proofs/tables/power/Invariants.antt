use Rattle.std.proofs.Common.{◌≡◌, ◌<◌}
use Rattle.spl_field.specs.Tables.{table_power}
use Rattle.spl_field.proofs.tables.power.Given as goal

abbrev pub invariant-loop-k : goal.invariant-loop-k
invariant-loop-k l = record {
  element : l.power < l.size;
  value : l.power ≡ table_power l.size l.products l.r l._k;
}
