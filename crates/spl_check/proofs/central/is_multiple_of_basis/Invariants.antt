use Rattle.std.proofs.Common.{◌≡◌, ◌<◌, ℕ, length}
use Rattle.theory_rings.specs.Sum.{at}
use Rattle.theory_spaces.specs.Tuples.{basis}
use Rattle.spl_check.proofs.central.is_multiple_of_basis.Given as goal

abbrev pub invariant-loop-k : goal.invariant-loop-k
invariant-loop-k g l = let o = g.F.Field.ops l.f in
    (k : ℕ) → k < l.k → at o l.v k ≡ o.mul l.c (at o (basis o (length l.v) l.i) k)
