use Rattle.std.proofs.Common.{◌<◌, ◌/◌, ◌%◌, ℕ}
use Rattle.spl_check.proofs.Maps.{CombinesAt}
use Rattle.spl_check.proofs.split.is_combination.Given as goal

abbrev pub invariant-loop-p : goal.invariant-loop-p
invariant-loop-p g l = let o = g.F.Field.ops l.f in
    (p : ℕ) → p < l.p → CombinesAt o l.n l.maps l.a l.b l.weights (p / l.n) (p % l.n)
