use Rattle.std.proofs.Common.{◌≡◌, ◌<◌, [], ℕ, get_or}
use Rattle.spl_algebra.proofs.power.same_rows.Given as goal

abbrev pub invariant-loop-r : goal.invariant-loop-r
invariant-loop-r g l = (k : ℕ) → k < l.r → get_or l.a k [] ≡ get_or l.b k []
