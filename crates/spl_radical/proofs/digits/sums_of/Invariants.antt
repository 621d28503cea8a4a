use Rattle.std.specs.Prelude.{◌≡◌, ◌+◌, ◌%◌, get_or}
use Rattle.theory_rings.specs.Sum.{table}
use Rattle.spl_radical.proofs.digits.sums_of.Given as goal

abbrev pub invariant-loop-t : goal.invariant-loop-t
invariant-loop-t l = l.out ≡ table l.t (λ t. (get_or l.a t 0 + get_or l.b t 0) % l.q)
