use Rattle.std.proofs.Common.{◌≢◌, ℕ, ◌<◌}
use Rattle.spl_field.specs.Tables.{entry_at}
use Rattle.spl_field.proofs.laws.row_has.Given as goal

abbrev pub invariant-loop-b : goal.invariant-loop-b
invariant-loop-b l = (k : ℕ) → k < l.b → entry_at l.size l.table l.a k ≢ l.wanted
