use Rattle.std.proofs.Common.{◌≡◌}
use Rattle.theory_rings.specs.Sum.{table}
use Rattle.theory_rows.specs.Augmented.{zero_row}
use Rattle.spl_lattice.proofs.augmented.zero_matrix.Given as goal

abbrev pub invariant-loop : goal.invariant-loop
invariant-loop l = l.rows ≡ table l.counter (λ _. zero_row l.w)
