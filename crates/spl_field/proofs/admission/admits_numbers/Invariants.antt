use Rattle.std.proofs.Common.{ℕ, ◌<◌}
use Rattle.spl_field.specs.FieldByDigits.{HasInverse}
use Rattle.spl_field.proofs.admission.admits_numbers.Given as goal

abbrev pub invariant-loop-a : goal.invariant-loop-a
invariant-loop-a l = (x : ℕ) → x < l.a → 0 < x → HasInverse l.p l.modulus x
