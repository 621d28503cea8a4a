use Rattle.std.proofs.Common.{◌≡◌}
use Rattle.theory_rings.specs.Sum.{table}
use Rattle.theory_rows.specs.Augmented.{unit_row}
use Rattle.spl_lattice.proofs.augmented.units.Given as goal

abbrev pub invariant-loop-i : goal.invariant-loop-i
invariant-loop-i l = l.rows ≡ table l.i (λ i. unit_row 1 l.n i)
