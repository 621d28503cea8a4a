use Rattle.std.proofs.Common.{◌<◌, ℕ}
use Rattle.spl_check.proofs.Maps.{UnitAt}
use Rattle.spl_check.proofs.split.is_matrix_unit.Given as goal

abbrev pub invariant-loop-q : goal.invariant-loop-q
invariant-loop-q g l = let o = g.F.Field.ops l.f in (q : ℕ) → q < l.q → UnitAt o l.n l.maps l.weights l.p q
