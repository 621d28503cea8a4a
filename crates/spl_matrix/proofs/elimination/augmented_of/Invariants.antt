use Rattle.std.proofs.Common.{◌≡◌, ◌++◌, [], length, get_or}
use Rattle.theory_rings.specs.Sum.{table}
use Rattle.spl_matrix.specs.Elimination.{identity_row}
use Rattle.spl_matrix.proofs.elimination.augmented_of.Given as goal

abbrev pub invariant-loop-i : goal.invariant-loop-i
invariant-loop-i g l = let o = g.F.Field.ops l.f in
    l.rows.items ≡ table l.i (λ i. get_or l.a i [] ++ identity_row o (length l.a) i)
