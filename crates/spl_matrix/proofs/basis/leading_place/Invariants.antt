use Rattle.std.proofs.Common.{◌≡◌, ℕ, ◌<◌}
use Rattle.theory_rings.specs.Sum.{at}
use Rattle.spl_matrix.proofs.basis.leading_place.Given as goal

abbrev pub invariant-loop-j : goal.invariant-loop-j
invariant-loop-j g l = let o = g.F.Field.ops l.f in (k : ℕ) → k < l.j → at o l.row k ≡ o.zero
