use Rattle.std.specs.Prelude.{◌≡◌, [], get_or}
use Rattle.theory_rings.specs.Sum.{table}
use Rattle.spl_radical.proofs.matrices.copied.Given as goal

abbrev pub invariant-loop-i : goal.invariant-loop-i
invariant-loop-i l = l.out ≡ table l.i (λ i. get_or l.rows i [])
