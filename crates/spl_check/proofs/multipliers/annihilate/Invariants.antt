use Rattle.std.proofs.Common.{◌≡◌, ◌<◌, ◌+◌, ℕ}
use Rattle.theory_rings.specs.Sum.{sum_of}
use Rattle.theory_spaces.specs.Tuples.{constant}
use Rattle.theory_tables.specs.Conditions.{multiplier_at}
use Rattle.spl_check.proofs.multipliers.annihilate.Given as goal

abbrev pub invariant-loop-i : goal.invariant-loop-i
invariant-loop-i g l = let o = g.F.Field.ops l.f in
    (i : ℕ) → i < l.i → sum_of o l.algebra.dim (λ j. sum_of o l.algebra.dim (λ k. o.add
    (o.mul (multiplier_at o l.left (j + 1) (k + 1)) (constant o l.algebra.dim l.algebra.constants i j k))
    (o.mul (multiplier_at o l.right (j + 1) (k + 1)) (constant o l.algebra.dim l.algebra.constants j i k)))) ≡ o.zero
