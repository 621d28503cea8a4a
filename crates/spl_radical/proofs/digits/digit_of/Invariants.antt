use Rattle.std.specs.Prelude.{◌≡◌, ◌/◌, ◌^◌}
use Rattle.spl_radical.proofs.digits.digit_of.Given as goal

abbrev pub invariant-loop-i : goal.invariant-loop-i
invariant-loop-i l = l.rest ≡ l.number / l.p ^ l.i
