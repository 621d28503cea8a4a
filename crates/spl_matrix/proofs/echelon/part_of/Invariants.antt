use Rattle.std.proofs.Common.{◌≡◌, ◌+◌}
use Rattle.theory_rings.specs.Sum.{table, at}
use Rattle.spl_matrix.proofs.echelon.part_of.Given as goal

abbrev pub invariant-loop-j : goal.invariant-loop-j
invariant-loop-j g l = let o = g.F.Field.ops l.f in l.items ≡ table l.j (λ j. at o l.row (l.from + j))
