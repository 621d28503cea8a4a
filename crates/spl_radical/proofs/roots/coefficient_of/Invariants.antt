use Rattle.std.specs.Prelude.{◌≡◌, ◌+◌, ◌*◌, ◌/◌, ◌%◌, ◌^◌, get_or}
use Rattle.theory_rings.specs.Digits.{of_digits}
use Rattle.spl_radical.proofs.roots.coefficient_of.Given as goal

abbrev pub invariant-loop-v : goal.invariant-loop-v
invariant-loop-v l = record {
  value : l.sum ≡ of_digits l.p l.v (λ v. get_or l.numbers (l.u * l.d + v) 0 / l.power % l.p);
  place : l.place ≡ l.p ^ l.v;
}
