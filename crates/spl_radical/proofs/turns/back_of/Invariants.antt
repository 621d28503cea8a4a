use Rattle.std.specs.Prelude.{◌≡◌, ◌-◌, ◌%◌, get_or}
use Rattle.theory_rings.specs.Sum.{table}
use Rattle.spl_radical.proofs.turns.back_of.Given as goal

abbrev pub invariant-loop-v : goal.invariant-loop-v
invariant-loop-v l = l.out ≡ table l.v (λ v. (l.q - get_or l.modulus v 0 % l.q) % l.q)
