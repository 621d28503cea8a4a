use Rattle.std.proofs.Common.{◌≡◌, drop, get_or, []}
use Rattle.theory_rings.specs.Sum.{table}
use Rattle.spl_lattice.proofs.augmented.tails.Given as goal

abbrev pub invariant-loop-i : goal.invariant-loop-i
invariant-loop-i l = l.parts ≡ table l.i (λ i. drop l.w (get_or l.rows i []))
