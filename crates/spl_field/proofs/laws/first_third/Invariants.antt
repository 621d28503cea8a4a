use Rattle.std.proofs.Common.{ℕ, ◌<◌}
use Rattle.spl_field.specs.Laws.{HoldsAt}
use Rattle.spl_field.proofs.laws.first_third.Given as goal

abbrev pub invariant-loop-c : goal.invariant-loop-c
invariant-loop-c l = (k : ℕ) → k < l.c → HoldsAt l.t.size l.t.sum l.t.product l.law l.a l.b k
