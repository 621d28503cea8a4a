use Rattle.std.specs.Prelude.{◌≡◌, ◌+◌, ◌*◌, ◌/◌, ◌%◌, get_or}
use Rattle.theory_rings.specs.Digits.{of_digits}
use Rattle.theory_rings.specs.Sum.{table}
use Rattle.spl_radical.proofs.roots.coefficients_of.Given as goal

abbrev pub invariant-loop-u : goal.invariant-loop-u
invariant-loop-u l = l.codes
    ≡ table l.u (λ u. of_digits l.p l.d (λ v. get_or l.numbers (u * l.d + v) 0 / l.power % l.p))
