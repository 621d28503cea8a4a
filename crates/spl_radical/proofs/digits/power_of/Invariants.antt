use Rattle.std.specs.Prelude.{◌≡◌, ◌^◌, suc}
use Rattle.spl_radical.proofs.digits.power_of.Given as goal

abbrev pub invariant-loop-i : goal.invariant-loop-i
invariant-loop-i l = l.power ≡ l.p ^ suc l.i
