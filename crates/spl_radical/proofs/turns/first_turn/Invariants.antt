use Rattle.std.specs.Prelude.{◌≡◌, ◌-◌, ◌/◌, ◌%◌, get_or}
use Rattle.theory_rings.specs.Digits.{digit}
use Rattle.theory_rings.specs.Sum.{table}
use Rattle.spl_radical.proofs.turns.first_turn.Given as goal

abbrev pub invariant-loop-t : goal.invariant-loop-t
invariant-loop-t l = l.out
    ≡ table l.t (λ t. (l.q - digit l.p (get_or l.modulus (t / l.d) 0) (t % l.d) % l.q) % l.q)
