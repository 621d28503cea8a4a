use Rattle.std.proofs.Common.{ℕ, ◌<◌}
use Rattle.spl_field.specs.Laws.{HoldsAtPair, second_below}
use Rattle.spl_field.proofs.laws.first_triple.Given as goal

abbrev pub invariant-loop-a : goal.invariant-loop-a
invariant-loop-a l = (x y : ℕ) → x < l.a → y < second_below l.t.size l.law
    → HoldsAtPair l.t.size l.t.sum l.t.product l.law x y
