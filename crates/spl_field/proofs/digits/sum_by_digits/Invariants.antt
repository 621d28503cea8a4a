use Rattle.std.proofs.Common.{◌+◌, ◌%◌}
use Rattle.theory_rings.specs.Digits.{digit}
use Rattle.spl_field.proofs.DigitLoops.{IsPartial}
use Rattle.spl_field.proofs.digits.sum_by_digits.Given as goal

abbrev pub invariant-loop-k : goal.invariant-loop-k
invariant-loop-k l = IsPartial l.p l._k l.place l.total (λ k. (digit l.p l.a k + digit l.p l.b k) % l.p)
