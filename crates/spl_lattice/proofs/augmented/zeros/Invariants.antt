use Rattle.std.proofs.Common.{◌≡◌, []}
use Rattle.theory_rings.specs.Sum.{table}
use Rattle.spl_lattice.proofs.augmented.zeros.Given as goal

abbrev pub invariant-loop : goal.invariant-loop
invariant-loop l = l.row ≡ table l.counter (λ _. [])
