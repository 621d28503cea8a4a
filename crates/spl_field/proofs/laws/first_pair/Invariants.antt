use Rattle.std.proofs.Common.{ℕ, ◌<◌}
use Rattle.spl_field.specs.Laws.{HoldsAtPair}
use Rattle.spl_field.proofs.laws.first_pair.Given as goal

abbrev pub invariant-loop-b : goal.invariant-loop-b
invariant-loop-b l = (y : ℕ) → y < l.b → HoldsAtPair l.t.size l.t.sum l.t.product l.law l.a y
