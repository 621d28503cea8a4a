use Rattle.std.proofs.Common.{◌<◌, ◌*◌, ℕ, [], get_or}
use Rattle.spl_check.proofs.Maps.{UnitAt}
use Rattle.spl_check.proofs.split.give_matrix_units.Given as goal

abbrev pub invariant-loop-p : goal.invariant-loop-p
invariant-loop-p g l = let o = g.F.Field.ops l.f in
    (p : ℕ) → p < l.p → (q : ℕ) → q < l.n * l.n → UnitAt o l.n l.maps (get_or l.units p []) p q
